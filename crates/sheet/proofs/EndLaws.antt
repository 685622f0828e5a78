-- END: its length, its bytes, and the END that the player reads back.
use mathlib.Core.Path.{◌≡◌, refl}
use Prim.Native.Nat.{ℕ}
use native.Mathlib.Omega.{arith}
use mathlib.Core.List.{List, ◌++◌}
use mathlib.Core.Option.{some}
use lib.ListN.{length}
use Rattle.sheet.specs.Record.{END, end_bytes, record_bytes}
use Rattle.sheet.specs.Player.{kind_of, end_at, length_by, record_length, record_by, record_at}
use Rattle.sheet.specs.Fits.{U8, All, EndFits}
use Rattle.sheet.specs.declared.End.{End}
use Rattle.sheet.proofs.BytesLaws.{back2, back4}

pub end_length : (e : End) → length (end_bytes e) ≡ 32
unfolding end_bytes
end_length e = refl

pub END_length : (e : End) → length (record_bytes (END e)) ≡ 32
unfolding record_bytes
END_length e = end_length e

pub END_back : {e : End} → EndFits e → (rest : List ℕ) → record_at (record_bytes (END e) ++ rest) ≡ some (END e)
unfolding record_bytes end_bytes kind_of end_at record_by record_at
END_back f rest =
    rw (
      back2 f.tempo,
      back4 f.spans.0.0,
      back4 f.spans.0.1,
      back4 f.spans.1.0.0,
      back4 f.spans.1.0.1,
      back4 f.spans.1.1.0.0,
      back4 f.spans.1.1.0.1,
    )

pub END_reads : (e : End) (rest : List ℕ) → record_length (record_bytes (END e) ++ rest) ≡ length (record_bytes (END e))
unfolding record_bytes end_bytes kind_of length_by record_length
END_reads e rest = refl

pub END_bytes : {e : End} → EndFits e → All U8 (record_bytes (END e))
unfolding record_bytes end_bytes
END_bytes f = omega arith
