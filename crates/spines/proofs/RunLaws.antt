-- The loop over a record's runs of `*v`: what is found from here on is what is found of the whole.
use mathlib.Core.Path.{◌≡◌, refl, sym, ap, ap₂, ◌∙◌}
use Prim.Native.Nat.{ℕ, suc, ◌+◌, ◌-◌, ◌/◌, ◌%◌, ◌≤◌, ◌<◌}
use native.Mathlib.Omega.{arith}
use native.Mathlib.Numerals.{add-one}
use mathlib.Core.List.{List, [], ◌∷◌}
use mathlib.Core.Bool.{Bool, true, false, ◌&&◌, ◌||◌, not, cond}
use mathlib.Core.Option.{Option, none, some}
use Rattle.std.proofs.Common as Std
use Rattle.std.proofs.Common.{Some, None, is_some, unwrap_or}
use Rattle.std.specs.Bool.{then_some}
use lib.Dec.{eqb, ltb}
use lib.ListN.{length, get_or}
use borrow.Author.Tests.{eq-eqb, ne_eqb, eqb-true, eqb-false}
use Rattle.slices.specs.Split.{pieces}
use Rattle.slices.proofs.SplitLaws.{all_pieces}
use Rattle.slices.proofs.TestLaws.{clash}
use Rattle.paths.specs.declared.PathToken.{PathToken}
use Rattle.paths.specs.Token.{is_join}
use Rattle.paths.specs.Joins.{same_origin, strays, mixed_from, mixed_run}
use Rattle.paths.specs.Row.{part_of, part_at}
use Rattle.paths.specs.declared.Spine.TheVariants.{Line, Branch, Outside}
use Rattle.paths.specs.Voices.{Outcome, mixed, unmixed}
use Rattle.spines.specs.Cells.{spine_of, row_of}
use Rattle.spines.specs.Tokens.{path_tokens, record_tokens, at_hand, Ahead}
use Rattle.spines.proofs.CellLaws.{cell_at}

-- ---- the origin of a cell

-- by its number over 8: 0 outside kern
abbrev origin_of : ℕ → Option ℕ
origin_of q = cond (eqb q 0) none (some (q - 1))

cell_origin : (c : ℕ) → part_of (spine_of c) ≡ origin_of (c / 8)
unfolding spine_of
cell_origin c = go (eqb (c / 8) 0) (ltb (c % 8) 4)
  where
    go : (a b : Bool) → part_of (cond a Outside (cond b (Line (c / 8 - 1) (c % 8)) (Branch (c / 8 - 1)))) ≡ cond a none (some (c / 8 - 1))
    go true b = refl
    go false true = refl
    go false false = refl

same_origin_lem : (p q : ℕ) → same_origin (origin_of p) (origin_of q) ≡ eqb p q
same_origin_lem p q = go (eqb p 0) refl (eqb q 0) refl
  where
    less : (b : Bool) → eqb (p - 1) (q - 1) ≡ b → (p ≡ 0 → ⊥) → (q ≡ 0 → ⊥) → b ≡ eqb p q
    less true e x y = let z : p - 1 ≡ q - 1 = eqb-true (p - 1) (q - 1) e in sym (eq-eqb p q (omega arith))
    less false e x y = let z : (p - 1 ≡ q - 1 → ⊥) = eqb-false (p - 1) (q - 1) e in sym (ne_eqb p q (λ w. z (ap (λ (k : ℕ). k - 1) w)))

    go : (a : Bool) → eqb p 0 ≡ a → (b : Bool) → eqb q 0 ≡ b → same_origin (cond a none (some (p - 1))) (cond b none (some (q - 1))) ≡ eqb p q
    go true e true f = sym (eq-eqb p q (eqb-true p 0 e ∙ sym (eqb-true q 0 f)))
    go true e false f = sym (ne_eqb p q (λ w. eqb-false q 0 f (sym w ∙ eqb-true p 0 e)))
    go false e true f = sym (ne_eqb p q (λ w. eqb-false p 0 e (w ∙ eqb-true q 0 f)))
    go false e false f = less (eqb (p - 1) (q - 1)) refl (eqb-false p 0 e) (eqb-false q 0 f)

origins_same : (a b : ℕ) → same_origin (part_of (spine_of a)) (part_of (spine_of b)) ≡ eqb (a / 8) (b / 8)
origins_same a b = ap₂ same_origin (cell_origin a) (cell_origin b) ∙ same_origin_lem (a / 8) (b / 8)

abbrev pub stray : Bool → ℕ → ℕ → Bool
stray join a b = join && not (same_origin (part_of (spine_of a)) (part_of (spine_of b)))

pub stray_yes : {join : Bool} (a b : ℕ) → join ≡ true → (a / 8 ≡ b / 8 → ⊥) → stray join a b ≡ true
stray_yes a b e n = rw (e, origins_same a b, ne_eqb (a / 8) (b / 8) n)

pub stray_alike : {join : Bool} (a b : ℕ) → join ≡ true → a / 8 ≡ b / 8 → stray join a b ≡ false
stray_alike a b e s = rw (e, origins_same a b, eq-eqb (a / 8) (b / 8) s)

pub stray_none : {join : Bool} (a b : ℕ) → join ≡ false → stray join a b ≡ false
stray_none a b e = rw e

self : (o : Option ℕ) → same_origin o o ≡ true
self none = refl
self (some p) = eq-eqb p p refl

-- ---- from column i on, where a run may be at hand that began in another column

module _ (origin : ℕ → Option ℕ) where
  abbrev pub resume : Bool → ℕ → ℕ → List PathToken → Option ℕ
  resume true begin i ts = cond (strays origin (origin begin) i ts) (some begin) (mixed_from origin true i ts)
  resume false begin i ts = mixed_from origin false i ts

  turn : (joined : Bool) (begin i : ℕ) (t : PathToken) (ts : List PathToken)
      → resume joined begin i (t ∷ ts)
      ≡ cond (is_join t && not (same_origin (origin (cond joined begin i)) (origin i))) (some (cond joined begin i)) (resume (is_join t) (cond joined begin i) (suc i) ts)
  unfolding strays mixed_from
  turn true begin i t ts = go (is_join t) (same_origin (origin begin) (origin i))
    where
      go : (j s : Bool) → cond (j && (not s || strays origin (origin begin) (suc i) ts)) (some begin) (cond (j && false && strays origin (origin i) (suc i) ts) (some i) (mixed_from origin j (suc i) ts))
          ≡ cond (j && not s) (some begin) (resume j begin (suc i) ts)
      go true true = refl
      go true false = refl
      go false s = refl
  turn false begin i t ts = go (is_join t) (same_origin (origin i) (origin i)) (self (origin i))
    where
      go : (j s : Bool) → s ≡ true → cond (j && true && strays origin (origin i) (suc i) ts) (some i) (mixed_from origin j (suc i) ts)
          ≡ cond (j && not s) (some i) (resume j i (suc i) ts)
      go true true e = refl
      go true false e = clash cc
      go false s e = refl

-- ---- the loop

-- what is found from here on is what is found of the whole
pub record RunsLeft (Line row : List ℕ) (from : ℕ) (joined : Bool) (begin i : ℕ) : Type 0 where
  pub high : i ≤ length row
  pub low : begin ≤ i
  pub same : resume (part_at (row_of row)) joined begin i (path_tokens (length row - i) (pieces 9 from Line)) ≡ mixed_run (part_at (row_of row)) (record_tokens (length row) Line)

pub runs_first : {Line row : List ℕ} → RunsLeft Line row 0 false 0 0
runs_first {Line} {row} = record {
  high = omega arith;
  low = omega arith;
  same =
      let z : length row - 0 ≡ length row = omega arith in
      ap (λ (k : ℕ). mixed_run (part_at (row_of row)) (path_tokens k (pieces 9 0 Line))) z
      ∙ ap (λ (ts : List (List ℕ)). mixed_run (part_at (row_of row)) (path_tokens (length row) ts)) (all_pieces 9 Line);
}

pub begin_low : {begin i b : ℕ} (joined : Bool) → begin ≤ i → b ≡ cond joined begin i → b ≤ i
begin_low true l e = omega arith
begin_low false l e = omega arith

-- where the run begins to which column i may belong
pub begin_is : (run : Std.Option ℕ) (i : ℕ) → unwrap_or run i ≡ cond (is_some run) (unwrap_or run 0) i
begin_is None i = refl
begin_is (Some b) i = refl

-- the run that stands to the left of the next column
pub runs_kept : {Line row : List ℕ} {from i b : ℕ} (join : Bool) {run : Std.Option ℕ} → run ≡ then_some join b → RunsLeft Line row from join b i →
    RunsLeft Line row from (is_some run) (unwrap_or run 0) i
runs_kept true e inv = rw e inv
runs_kept false e inv = rw e (record { high = inv.high; low = omega arith; same = inv.same })

part_of_cell : (row : List ℕ) (i : ℕ) → i < length row → part_at (row_of row) i ≡ part_of (spine_of (get_or row i 0))
unfolding part_at
part_of_cell row i h = ap part_of (cell_at row i h)

module _ {Line row : List ℕ} {from : ℕ} {joined : Bool} {begin i : ℕ} (inv : RunsLeft Line row from joined begin i) (h : i < length row)
    {t : PathToken} {from' : ℕ} (a : Ahead Line from (length row - i) t from') {join : Bool} (j : join ≡ is_join t) {b : ℕ} (e : b ≡ cond joined begin i) where
  tokens : path_tokens (length row - i) (pieces 9 from Line) ≡ t ∷ path_tokens (length row - (i + 1)) (pieces 9 from' Line)
  unfolding at_hand
  tokens = let z : length row - i ≡ suc (length row - (i + 1)) = omega arith in a.same ∙ ap (λ (k : ℕ). at_hand k t (pieces 9 from' Line)) z

  abbrev pub strays_here : Bool
  strays_here = stray join (get_or row b 0) (get_or row i 0)

  abbrev rest : List PathToken
  rest = path_tokens (length row - (i + 1)) (pieces 9 from' Line)

  abbrev origin : ℕ → Option ℕ
  origin = part_at (row_of row)

  turned : mixed_run origin (record_tokens (length row) Line) ≡ cond strays_here (some b) (resume origin join b (i + 1) rest)
  turned =
      sym inv.same ∙ ap (resume origin joined begin i) tokens ∙ turn origin joined begin i t rest
      ∙ ap₂ (λ (x : Bool) (y : ℕ). cond (x && not (same_origin (origin y) (origin i))) (some y) (resume origin x y (suc i) rest)) (sym j) (sym e)
      ∙ ap₂ (λ (p q : Option ℕ). cond (join && not (same_origin p q)) (some b) (resume origin join b (suc i) rest))
      (part_of_cell row b (omega (arith, begin_low joined inv.low e))) (part_of_cell row i h)
      ∙ ap (λ (k : ℕ). cond strays_here (some b) (resume origin join b k rest)) (sym (add-one i))

  pub runs_turn : strays_here ≡ false → RunsLeft Line row from' join b (i + 1)
  runs_turn n = record {
    high = omega arith;
    low = omega (arith, begin_low joined inv.low e);
    same = sym (turned ∙ ap (λ (x : Bool). cond x (some b) (resume origin join b (i + 1) rest)) n);
  }

  pub runs_found : strays_here ≡ true → (o : Outcome) → mixed (b + 1) ≡ unmixed (mixed_run origin (record_tokens (length row) Line)) o
  runs_found y o = sym (ap (λ (m : Option ℕ). unmixed m o) (turned ∙ ap (λ (x : Bool). cond x (some b) (resume origin join b (i + 1) rest)) y))

pub runs_past : {Line row : List ℕ} {from : ℕ} {joined : Bool} {begin i : ℕ} → RunsLeft Line row from joined begin i → length row ≤ i
    → (o : Outcome) → o ≡ unmixed (mixed_run (part_at (row_of row)) (record_tokens (length row) Line)) o
unfolding path_tokens strays mixed_from
runs_past {Line} {row} {from} {joined} {begin} {i} inv h o = sym (ap (λ (m : Option ℕ). unmixed m o) (sym inv.same ∙ ap (λ (k : ℕ). resume (part_at (row_of row)) joined begin i (path_tokens k (pieces 9 from Line))) z ∙ go joined))
  where
    z : length row - i ≡ 0
    z = omega arith

    go : (b : Bool) → resume (part_at (row_of row)) b begin i [] ≡ none
    go true = refl
    go false = refl
