-- Runs of signs: where they lead, and where they stop.
use mathlib.Core.Path.{◌≡◌, refl, ◌∙◌}
use Prim.Native.Nat.{ℕ, zero, suc, ◌+◌, ◌-◌, ◌<◌, ◌≤◌, min}
use native.Mathlib.Omega.{arith}
use mathlib.Core.Bool.{Bool, true, false, cond}
use mathlib.Core.List.{List, [], ◌∷◌, ◌++◌}
use lib.Dec.{eqb}
use lib.ListN.{replicate}
use Rattle.pitch.specs.Pitch.{altered_by, signs}

-- an alteration stays a byte
pub altered_byte : (a sign : ℕ) → a < 256 → altered_by a sign < 256
unfolding altered_by
altered_byte a sign h = go (eqb sign 35) (eqb sign 45) (eqb sign 110)
  where
    go : (s f n : Bool) → cond s (min (a + 1) 255) (cond f (a - 1) (cond n 128 a)) < 256
    go true f n = omega arith
    go false true n = omega arith
    go false false true = omega arith
    go false false false = h

pub signs_append : (a : ℕ) (l m : List ℕ) → signs a (l ++ m) ≡ signs (signs a l) m
unfolding signs
signs_append a [] m = refl
signs_append a (sign ∷ l) m = signs_append (altered_by a sign) l m

pub sharps_from : (a k : ℕ) → a ≤ 255 → signs a (replicate k 35) ≡ min (a + k) 255
unfolding signs altered_by
sharps_from a zero h = omega arith
sharps_from a (suc k) h = sharps_from (min (a + 1) 255) k (omega arith) ∙ omega arith

pub flats_from : (a k : ℕ) → signs a (replicate k 45) ≡ a - k
unfolding signs altered_by
flats_from a zero = omega arith
flats_from a (suc k) = flats_from (a - 1) k ∙ omega arith
