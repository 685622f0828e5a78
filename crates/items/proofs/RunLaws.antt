-- The item at an index, and the loop that finds where a run ends.
use mathlib.Core.Path.{◌≡◌, refl, sym, ap, ◌∙◌}
use Prim.Native.Nat.{ℕ, zero, suc, ◌+◌, ◌-◌, ◌≤◌, ◌<◌}
use native.Mathlib.Nat.{add-zero}
use native.Mathlib.Numerals.{add-one}
use native.Mathlib.Omega.{arith}
use mathlib.Core.List.{List, [], ◌∷◌}
use mathlib.Core.Bool.{Bool, true, false, cond}
use lib.Dec.{ltb}
use borrow.Author.Tests.{ltb-true, ltb-false}
use lib.ListN.{length, take, drop, get_or, length-drop, drop_of_length-le}
use lib.Seq.{drop-cons, drop-drop}
use Rattle.pitch.specs.Pitch.{within}
use Rattle.items.specs.Items.{joins, runs, item_of, items_of, pieces, items, more, first, goes_on, first_piece, next_item}
use Rattle.items.proofs.PieceLaws.{piece_low, first_piece_lem}
use Rattle.items.specs.declared.Next.{Next}
use Rattle.items.specs.declared.Item.{Item}
use Rattle.items.specs.declared.Item.TheVariants.{Blank}

-- ---- the item at an index
pub record At (s : List ℕ) (i : ℕ) (n : Next) : Type 0 where
  pub on : i < n.end
  pub high : n.end ≤ length s
  pub same : items (drop i s) ≡ n.item ∷ items (drop n.end s)

pub next_at : {s : List ℕ} {i : ℕ} {n : Next} → i < length s → n ≡ next_item s i → At s i n
unfolding next_item items_of
next_at {s} {i} {n} h e =
    let l : 0 < length (drop i s) = omega (arith, length-drop i s) in
    let f = piece_low (drop i s) l in
    rw e (record {
      on = omega arith;
      high = omega (arith, length-drop i s);
      same = ap items_of (first_piece_lem (drop i s) l) ∙ ap (λ (r : List ℕ). item_of (take (first_piece (drop i s)) (drop i s)) ∷ items r) (drop-drop (first_piece (drop i s)) i s);
    })

pub no_items : (s : List ℕ) {i : ℕ} → length s ≤ i → items (drop i s) ≡ []
unfolding items_of pieces runs
no_items s h = ap items (drop_of_length-le s h)

-- ---- the loop of `run_end`: the byte before e is the last that is known to be of the run
pub record Run (s : List ℕ) (from e : ℕ) : Type 0 where
  pub low : from < e
  pub high : e ≤ length s
  pub same : from + first (drop from s) ≡ e + more (get_or s (e - 1) 0) (drop e s)

pub run_start : {s : List ℕ} {from : ℕ} → from < length s → Run s from (from + 1)
unfolding first
run_start {s} {from} h =
    let b : from + 1 - 1 ≡ from = omega arith in
    record {
      low = omega arith;
      high = omega arith;
      same = ap (λ (l : List ℕ). from + first l) (drop-cons s from 0 h) ∙ rw (b, add-one from) (omega arith);
    }

module _ {s : List ℕ} {from e : ℕ} (inv : Run s from e) where
  at_index : e < length s
      → more (get_or s (e - 1) 0) (drop e s) ≡ cond (joins (get_or s (e - 1) 0) (get_or s e 0)) (suc (more (get_or s e 0) (drop (e + 1) s))) zero
  unfolding more
  at_index h = ap (more (get_or s (e - 1) 0)) (drop-cons s e 0 h) ∙ rw (add-one e)

  pub run_turn : {t : Bool} → e < length s → t ≡ joins (get_or s (e - 1) 0) (get_or s e 0) → t ≡ true → Run s from (e + 1)
  run_turn {t} h j y =
      let b : e + 1 - 1 ≡ e = omega arith in
      let m : more (get_or s (e - 1) 0) (drop e s) ≡ suc (more (get_or s e 0) (drop (e + 1) s)) = at_index h ∙ rw (sym j ∙ y) in
      record { low = omega arith; high = omega arith; same = rw b (omega arith) }

  pub run_done : {t : Bool} → e < length s → t ≡ joins (get_or s (e - 1) 0) (get_or s e 0) → t ≡ false → e ≡ from + first (drop from s)
  run_done {t} h j y =
      let m : more (get_or s (e - 1) 0) (drop e s) ≡ zero = at_index h ∙ rw (sym j ∙ y) in
      omega arith

  pub run_past : length s ≤ e → e ≡ from + first (drop from s)
  unfolding more
  run_past h =
      let m : more (get_or s (e - 1) 0) (drop e s) ≡ 0 = ap (more (get_or s (e - 1) 0)) (drop_of_length-le s h) in
      omega arith

-- the whole run: each byte joins the one before it, and the byte behind it doesn't
pub run_to : (s : List ℕ) (from e : ℕ) → from < e → e ≤ length s → ((j : ℕ) → from < j → j < e → joins (get_or s (j - 1) 0) (get_or s j 0) ≡ true)
    → (e < length s → joins (get_or s (e - 1) 0) (get_or s e 0) ≡ false) → e ≡ from + first (drop from s)
run_to s from e low high each stop = past (ltb e (length s)) refl
  where
    go : (n : ℕ) → from + 1 + n ≤ e → Run s from (from + 1 + n)
    go zero h = rw (add-zero (from + 1)) (run_start (omega arith))
    go (suc n) h =
        let k : from + 1 + suc n ≡ from + 1 + n + 1 = omega arith in
        rw k (run_turn (go n (omega arith)) (omega arith) refl (each (from + 1 + n) (omega arith) (omega arith)))

    all : Run s from e
    all = let k : from + 1 + (e - (from + 1)) ≡ e = omega arith in rw k at (go (e - (from + 1)) (omega arith))

    past : (t : Bool) → ltb e (length s) ≡ t → e ≡ from + first (drop from s)
    past true q = let h : e < length s = ltb-true e (length s) q in run_done all h refl (stop h)
    past false q = run_past all (ltb-false e (length s) q)

-- ---- what `next_item` answers
pub next_none : (s : List ℕ) (from : ℕ) → length s ≤ from → record { item = Blank; end = from } ≡ next_item s from
unfolding next_item first_piece first goes_on item_of within
next_none s from h =
    let n : drop from s ≡ [] = drop_of_length-le s {i = from} (omega arith) in
    let z : from ≡ from + 0 = omega arith in
    sym (rw (n, ← z))

pub next_is : (s : List ℕ) (from : ℕ) {e : ℕ} {r : Item} → e ≡ from + first_piece (drop from s) → r ≡ item_of (take (e - from) (drop from s))
    → record { item = r; end = e } ≡ next_item s from
unfolding next_item
next_is s from {e} {r} p q =
    let k : e - from ≡ first_piece (drop from s) = omega arith in
    rw (q, k, p)
