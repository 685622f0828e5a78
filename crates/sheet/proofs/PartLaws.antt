-- PART: its length, its bytes, and the PART that the player reads back.
use mathlib.Core.Path.{◌≡◌, refl}
use Prim.Native.Nat.{ℕ}
use native.Mathlib.Omega.{arith}
use mathlib.Core.List.{List, ◌++◌}
use mathlib.Core.Option.{some}
use lib.ListN.{length}
use Rattle.sheet.specs.Record.{PART, part_bytes, record_bytes}
use Rattle.sheet.specs.Player.{kind_of, part_at, length_by, record_length, record_by, record_at}
use Rattle.sheet.specs.Fits.{U8, All, PartFits}
use Rattle.sheet.specs.declared.Part.{Part}
use Rattle.sheet.proofs.BytesLaws.{back4}

pub part_length : (p : Part) → length (part_bytes p) ≡ 20
unfolding part_bytes
part_length p = refl

pub PART_length : (p : Part) → length (record_bytes (PART p)) ≡ 20
unfolding record_bytes
PART_length p = part_length p

pub PART_back : {p : Part} → PartFits p → (rest : List ℕ) → record_at (record_bytes (PART p) ++ rest) ≡ some (PART p)
unfolding record_bytes part_bytes kind_of part_at record_by record_at
PART_back f rest = rw (back4 f.spans.0.0, back4 f.spans.0.1, back4 f.spans.1.0.0, back4 f.spans.1.0.1)

pub PART_reads : (p : Part) (rest : List ℕ) → record_length (record_bytes (PART p) ++ rest) ≡ length (record_bytes (PART p))
unfolding record_bytes part_bytes kind_of length_by record_length
PART_reads p rest = refl

pub PART_bytes : {p : Part} → PartFits p → All U8 (record_bytes (PART p))
unfolding record_bytes part_bytes
PART_bytes f = omega arith
