-- Repair, on a record's tokens and the number n of active spines. Quoted are document 01's sentences.
use Rattle.std.specs.Prelude.{ℕ, ◌-◌, Result, Ok, Err, Bool, true, false, ◌&&◌, not, cond, eqb, leb, ltb, length, take, drop, replicate, Option, Some, None}
use mathlib.Core.List.{List, [], ◌∷◌, ◌++◌, head_d}
use Rattle.slices.specs.Ascii.{ascii}
use Rattle.slices.specs.Compare.{begins_with, same_bytes}
use Rattle.lines.specs.Tokens.{is_star, is_empty}
use Rattle.paths.specs.declared.PathToken.{PathToken}
use Rattle.paths.specs.declared.PathToken.TheVariants.{Split, Join, Exchange, End, Add, Other}
use Rattle.paths.specs.Token.{path_token}
use Rattle.repair.specs.declared.Repair.{Repair}
use Rattle.repair.specs.declared.Repair.TheVariants.{Whole, Cut, Stars, Bars}
use Rattle.repair.specs.declared.Unrepaired.{Unrepaired}
use Rattle.repair.specs.declared.Unrepaired.TheVariants.{Uneven, Mixed}

-- whether each token passes a test
unfoldable pub each : (List ℕ → Bool) → List (List ℕ) → Bool
each test [] = true
each test (t ∷ ts) = test t && each test ts

abbrev pub first_of : List (List ℕ) → List ℕ
first_of ts = head_d ts []

-- none of `*^ *v *x *+ *-`
abbrev pub is_other : PathToken → Bool
is_other Split = false
is_other Join = false
is_other Exchange = false
is_other End = false
is_other Add = false
is_other Other = true

unfoldable pub is_ordinary : List ℕ → Bool
is_ordinary t = is_star t && is_other (path_token t)

-- "first begins `=`, all identical"
unfoldable pub is_bar : List ℕ → Bool
is_bar t = begins_with (ascii "=") t

unfoldable pub identical_bars : List (List ℕ) → Bool
identical_bars ts = is_bar (first_of ts) && each (same_bytes (first_of ts)) ts

-- "Repair, first that applies: surplus tokens all empty are cut (4); too few, all begin `*`, none of `*^ *v *x *+ *-`: filled with `*` (5); too few,
-- at least two, first begins `=`, all identical: filled with that token (6)."
unfoldable pub repair_of : ℕ → List (List ℕ) → Repair
repair_of n ts =
    cond (ltb n (length ts) && each is_empty (drop n ts)) Cut
    (cond (ltb (length ts) n && each is_ordinary ts) Stars
    (cond (ltb (length ts) n && (leb 2 (length ts) && identical_bars ts)) Bars
    Whole))

-- the number of the notice that says so
abbrev pub repair_notice : Repair → Option ℕ
repair_notice Whole = None
repair_notice Cut = Some 4
repair_notice Stars = Some 5
repair_notice Bars = Some 6

-- the tokens after a repair
unfoldable pub repair_by : Repair → ℕ → List (List ℕ) → List (List ℕ)
repair_by Whole n ts = ts
repair_by Cut n ts = take n ts
repair_by Stars n ts = ts ++ replicate (n - length ts) (ascii "*")
repair_by Bars n ts = ts ++ replicate (n - length ts) (first_of ts)

abbrev pub repaired : ℕ → List (List ℕ) → List (List ℕ)
repaired n ts = repair_by (repair_of n ts) n ts

-- what it comes to: the repair, or why the reading stops
abbrev pub Repaired : Type 0
Repaired = Result Repair Unrepaired

-- question 6, "After repair, are there as many tokens as active spines?", with "the count before repair"; then question 7, "In a record begun by `*`,
-- do all tokens begin `*`?"
unfoldable pub questions : ℕ → List (List ℕ) → Repair → Repaired
questions n ts r =
    cond (eqb (length (repair_by r n ts)) n)
    (cond (is_star (first_of ts) && not (each is_star (repair_by r n ts))) (Err Mixed) (Ok r))
    (Err (Uneven (length ts)))

abbrev pub repaired_of : ℕ → List (List ℕ) → Repaired
repaired_of n ts = questions n ts (repair_of n ts)
