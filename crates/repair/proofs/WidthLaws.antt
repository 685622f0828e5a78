-- A repair always makes the widths equal; what an answer says of the width.
use Rattle.std.proofs.Common.{Ok, Err}
use mathlib.Core.Path.{◌≡◌, refl, sym, ap, ◌∙◌}
use Prim.Native.Nat.{ℕ, ◌<◌}
use native.Mathlib.Omega.{arith}
use mathlib.Core.Logic.{◌⊎◌, inl, inr, ⊎_elim}
use mathlib.Core.List.{List, map}
use mathlib.Core.Bool.{Bool, true, false, ◌&&◌, not, cond}
use lib.Dec.{eqb, leb, ltb}
use lib.ListN.{length, drop, length-append, length-replicate, length-map}
use lib.Seq.{length-take-le}
use borrow.Author.Tests.{ltb-true, eqb-true, eqb-false, eq-eqb}
use Rattle.lines.specs.Tokens.{tokens_of, is_star, is_empty}
use Rattle.paths.specs.Token.{path_token}
use Rattle.paths.specs.Record.{star, plain, tokens}
use Rattle.repair.specs.Repair.{each, first_of, is_ordinary, identical_bars, repair_of, repair_by, repaired, questions, repaired_of}
use Rattle.repair.specs.Record.{record_of}
use Rattle.repair.specs.declared.Repair.{Repair}
use Rattle.repair.specs.declared.Repair.TheVariants.{Whole, Cut, Stars, Bars}
use Rattle.repair.specs.declared.Unrepaired.TheVariants.{Uneven, Mixed}
use Rattle.slices.proofs.TestLaws.{clash, and_left, and_right}

-- what holds where a repair applies
abbrev pub Applies : ℕ → List (List ℕ) → Repair → Type 0
Applies n ts Whole = Unit
Applies n ts Cut = n < length ts
Applies n ts Stars = length ts < n
Applies n ts Bars = (length ts < n) × (identical_bars ts ≡ true)

-- neither 7 nor an even record is an uneven one
passed : {k : ℕ} (r : Repair) (x : Bool) → cond x (Err Mixed) (Ok r) ≡ Err (Uneven k) → ⊥
passed r true u = clash cc
passed r false u = clash cc

module _ (n : ℕ) (ts : List (List ℕ)) where
  pub applies : Applies n ts (repair_of n ts)
  unfolding repair_of
  applies = cut (ltb n (length ts) && each is_empty (drop n ts)) refl
    where
      bars : (b : Bool) → (ltb (length ts) n && (leb 2 (length ts) && identical_bars ts)) ≡ b → Applies n ts (cond b Bars Whole)
      bars true e = (
        ltb-true (length ts) n (and_left (ltb (length ts) n) (leb 2 (length ts) && identical_bars ts) e),
        and_right (leb 2 (length ts)) (identical_bars ts) (and_right (ltb (length ts) n) (leb 2 (length ts) && identical_bars ts) e),
      )
      bars false e = tt

      stars : (b : Bool) → (ltb (length ts) n && each is_ordinary ts) ≡ b →
          Applies n ts (cond b Stars (cond (ltb (length ts) n && (leb 2 (length ts) && identical_bars ts)) Bars Whole))
      stars true e = ltb-true (length ts) n (and_left (ltb (length ts) n) (each is_ordinary ts) e)
      stars false e = bars (ltb (length ts) n && (leb 2 (length ts) && identical_bars ts)) refl

      cut : (b : Bool) → (ltb n (length ts) && each is_empty (drop n ts)) ≡ b →
          Applies n ts (cond b Cut (cond (ltb (length ts) n && each is_ordinary ts) Stars (cond (ltb (length ts) n && (leb 2 (length ts) && identical_bars ts)) Bars Whole)))
      cut true e = ltb-true n (length ts) (and_left (ltb n (length ts)) (each is_empty (drop n ts)) e)
      cut false e = stars (ltb (length ts) n && each is_ordinary ts) refl

  -- a repair makes the widths equal
  pub width : (r : Repair) → Applies n ts r → (r ≡ Whole) ⊎ (length (repair_by r n ts) ≡ n)
  unfolding repair_by
  width Whole a = inl refl
  width Cut a = inr (length-take-le n ts (omega arith))
  width Stars a = inr (simp (length-append, length-replicate) (omega arith))
  width Bars a = inr (simp (length-append, length-replicate) (omega (arith, a.0)))

  -- an even record has a token for each spine
  pub even_width : {r : Repair} → repaired_of n ts ≡ Ok r → length (repaired n ts) ≡ n
  unfolding questions
  even_width {r} e = go (eqb (length (repaired n ts)) n) refl e
    where
      go : (b : Bool) → eqb (length (repaired n ts)) n ≡ b →
          cond b (cond (is_star (first_of ts) && not (each is_star (repaired n ts))) (Err Mixed) (Ok (repair_of n ts))) (Err (Uneven (length ts))) ≡ Ok r → length (repaired n ts) ≡ n
      go true q h = eqb-true (length (repaired n ts)) n q
      go false q h = cc

  -- an uneven one hasn't, and is as it was
  even_never : {k : ℕ} (r : Repair) → length (repair_by r n ts) ≡ n → questions n ts r ≡ Err (Uneven k) → ⊥
  unfolding questions
  even_never r w h = passed r (is_star (first_of ts) && not (each is_star (repair_by r n ts))) (rw (eq-eqb (length (repair_by r n ts)) n w) at h)

  whole_uneven : {k : ℕ} → questions n ts Whole ≡ Err (Uneven k) → (k ≡ length ts) × (k ≡ n → ⊥)
  unfolding questions repair_by
  whole_uneven {k} h = go (eqb (length ts) n) refl h
    where
      go : (b : Bool) → eqb (length ts) n ≡ b → cond b (cond (is_star (first_of ts) && not (each is_star ts)) (Err Mixed) (Ok Whole)) (Err (Uneven (length ts))) ≡ Err (Uneven k) →
          (k ≡ length ts) × (k ≡ n → ⊥)
      go true q g = absurd (passed Whole (is_star (first_of ts) && not (each is_star ts)) g)
      go false q g = let same : k ≡ length ts = cc in (same, λ e. eqb-false (length ts) n q (sym same ∙ e))

  pub uneven_width : {k : ℕ} → repaired_of n ts ≡ Err (Uneven k) → (k ≡ length (repaired n ts)) × (k ≡ n → ⊥)
  unfolding repair_by
  uneven_width {k} e = ⊎_elim (λ w. whole w (whole_uneven (sym (ap (questions n ts) w) ∙ e))) (λ w. absurd (even_never (repair_of n ts) w e)) (width (repair_of n ts) applies)
    where
      whole : repair_of n ts ≡ Whole → (k ≡ length ts) × (k ≡ n → ⊥) → (k ≡ length (repaired n ts)) × (k ≡ n → ⊥)
      whole w g = (g.0 ∙ ap (λ (r : Repair). length (repair_by r n ts)) (sym w), g.1)

-- ---- the record for paths

pub record_tokens_lem : (n : ℕ) (line : List ℕ) → tokens (record_of n line) ≡ length (repaired n (tokens_of line))
unfolding record_of
record_tokens_lem n line = go (is_star line)
  where
    go : (b : Bool) → tokens (cond b (star (map path_token (repaired n (tokens_of line)))) (plain (length (repaired n (tokens_of line))))) ≡ length (repaired n (tokens_of line))
    go true = length-map (repaired n (tokens_of line)) path_token
    go false = refl
