-- BAR: its length, its bytes, and the BAR that the player reads back.
use mathlib.Core.Path.{◌≡◌, refl}
use Prim.Native.Nat.{ℕ}
use native.Mathlib.Omega.{arith}
use mathlib.Core.List.{List, ◌++◌}
use mathlib.Core.Option.{some}
use lib.ListN.{length}
use Rattle.sheet.specs.Record.{BAR, bar_bytes, record_bytes}
use Rattle.sheet.specs.Player.{kind_of, bar_at, length_by, record_length, record_by, record_at}
use Rattle.sheet.specs.Fits.{U8, All, BarFits}
use Rattle.sheet.specs.declared.Bar.{Bar}
use Rattle.sheet.proofs.BytesLaws.{back2, back4}

pub bar_length : (r : Bar) → length (bar_bytes r) ≡ 20
unfolding bar_bytes
bar_length r = refl

pub BAR_length : (r : Bar) → length (record_bytes (BAR r)) ≡ 20
unfolding record_bytes
BAR_length r = bar_length r

pub BAR_back : {r : Bar} → BarFits r → (rest : List ℕ) → record_at (record_bytes (BAR r) ++ rest) ≡ some (BAR r)
unfolding record_bytes bar_bytes kind_of bar_at record_by record_at
BAR_back f rest = rw (back4 f.number, back2 f.tempo)

pub BAR_reads : (r : Bar) (rest : List ℕ) → record_length (record_bytes (BAR r) ++ rest) ≡ length (record_bytes (BAR r))
unfolding record_bytes bar_bytes kind_of length_by record_length
BAR_reads r rest = refl

pub BAR_bytes : {r : Bar} → BarFits r → All U8 (record_bytes (BAR r))
unfolding record_bytes bar_bytes
BAR_bytes f = omega arith
