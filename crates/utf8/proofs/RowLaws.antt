-- A row of the table, byte by byte, as the code goes through it.
use mathlib.Core.Path.{◌≡◌, refl, sym, ap, ◌∙◌}
use mathlib.Core.Bool.{Bool, true, false, cond, ◌&&◌, and-true}
use mathlib.Core.List.{List, [], ◌∷◌, Memᴰ}
use Prim.Native.Nat.{ℕ, zero, suc, ◌+◌, ◌-◌, ◌≤◌, ◌<◌}
use native.Mathlib.Nat.{not-suc-le-zero, le_of_suc-le-suc}
use native.Mathlib.Omega.{arith}
use lib.Dec.{leb}
use lib.ListN.{length, drop, get_or, drop_of_length-le}
use lib.Seq.{drop-drop}
use borrow.Author.Tests.{le-leb, leb-true, leb-false}
use Rattle.slices.proofs.SplitLaws.{at_index}
use Rattle.std.specs.List.{list_all, range_with_len}
use Rattle.utf8.specs.Utf8.{Range, tails, table, begins, char_length}
use Rattle.utf8.proofs.TableLaws.{char_lead, char_miss, Out, begins_out}

-- ---- one byte: past the end, below the range, and up to its last
module _ (r : Range) (s : List ℕ) (i : ℕ) where
  pub past : length s ≤ i → (rs : List Range) → begins (r ∷ rs) (drop i s) ≡ false
  unfolding begins
  past h rs = ap (begins (r ∷ rs)) (drop_of_length-le s h)

  pub under : i < length s → get_or s i 0 < r.0 → begins (r ∷ []) (drop i s) ≡ false
  under h low = ap (begins (r ∷ [])) (at_index s i h) ∙ begins_out r (get_or s i 0) [] (drop (i + 1) s) (λ l. absurd (not-suc-le-zero {n = 0} (omega arith)))

  pub upto : i < length s → r.0 ≤ get_or s i 0 → begins (r ∷ []) (drop i s) ≡ leb (get_or s i 0) r.1
  unfolding begins
  upto h low = ap (begins (r ∷ [])) (at_index s i h) ∙ rw (le-leb r.0 (get_or s i 0) low) (and-true (leb (get_or s i 0) r.1))

  -- a byte of the row and the row behind it
  pub begins_split : (rs : List Range) → begins (r ∷ rs) (drop i s) ≡ (begins (r ∷ []) (drop i s) && begins rs (drop (i + 1) s))
  unfolding begins
  begins_split rs = go (drop i s) ∙ ap (λ (l : List ℕ). begins (r ∷ []) (drop i s) && begins rs l) (drop-drop 1 i s)
    where
      and_then_lem : (a b : Bool) → (a && b) ≡ (a && true && b)
      and_then_lem true b = refl
      and_then_lem false b = refl

      go : (l : List ℕ) → begins (r ∷ rs) l ≡ (begins (r ∷ []) l && begins rs (drop 1 l))
      go [] = refl
      go (b ∷ l) = and_then_lem (leb r.0 b && leb b r.1) (begins rs l)

abbrev tail : Range
tail = (0x80, 0xBF)

-- ---- the tails from an index on
pub all_tails : (s : List ℕ) (m i : ℕ) → list_all (λ k. begins (tail ∷ []) (drop k s)) (range_with_len i m) ≡ begins (tails m) (drop i s)
unfolding begins
all_tails s zero i = refl
all_tails s (suc m) i = rw (all_tails s m (i + 1)) (sym (begins_split tail s i (tails m)))

-- the byte behind the lead, and the tails
module _ (r : Range) (s : List ℕ) (n : ℕ) where
  pub rest_none : begins (r ∷ []) (drop 1 s) ≡ false → 0 ≡ cond (begins (r ∷ tails (n - 2)) (drop 1 s)) n 0
  rest_none e = rw (begins_split r s 1 (tails (n - 2)), e)

  pub rest_some : begins (r ∷ []) (drop 1 s) ≡ true → (t : Bool) → begins (tails (n - 2)) (drop 2 s) ≡ t
      → cond t n 0 ≡ cond (begins (r ∷ tails (n - 2)) (drop 1 s)) n 0
  rest_some e t q = rw (begins_split r s 1 (tails (n - 2)), e, q)

-- ---- the rows by their numbers
nth : (rows : List (List Range)) (k : ℕ) → k < length rows → Memᴰ (get_or rows k []) rows
nth [] k h = absurd (not-suc-le-zero h)
nth (x ∷ rows) zero h = Memᴰ.head refl
nth (x ∷ rows) (suc k) h = Memᴰ.tail (nth rows k (le_of_suc-le-suc h))

pub row : (k : ℕ) → k < length table → Memᴰ (get_or table k []) table
row k h = nth table k h

-- the character of a text whose first byte leads a row, and of one whose first byte leads none
module _ (s : List ℕ) (some : length s ≡ 0 → ⊥) where
  cons : s ≡ get_or s 0 0 ∷ drop 1 s
  cons = at_index s 0 (omega arith)

  pub leads : {r : Range} {rs : List Range} → Memᴰ (r ∷ rs) table → r.0 ≤ get_or s 0 0 → get_or s 0 0 ≤ r.1
      → char_length s ≡ cond (begins rs (drop 1 s)) (suc (length rs)) 0
  leads m low high = ap char_length cons ∙ char_lead m (get_or s 0 0) (drop 1 s) low high

  pub leads_none : Out table (get_or s 0 0) → char_length s ≡ 0
  leads_none o = ap char_length cons ∙ char_miss (get_or s 0 0) (drop 1 s) o

  -- the rows E1 to EC and EE to EF, which have one form
  pub leads_three : 0xE1 ≤ get_or s 0 0 → get_or s 0 0 ≤ 0xEF → (get_or s 0 0 ≡ 0xED → ⊥) → char_length s ≡ cond (begins (tails 2) (drop 1 s)) 3 0
  unfolding table
  leads_three low high not-ed = go (leb (get_or s 0 0) 0xEC) refl
    where
      go : (t : Bool) → leb (get_or s 0 0) 0xEC ≡ t → char_length s ≡ cond (begins (tails 2) (drop 1 s)) 3 0
      go true e = leads (row 3 (omega arith)) low (leb-true (get_or s 0 0) 0xEC e)
      go false e =
          let above : 0xEC < get_or s 0 0 = leb-false (get_or s 0 0) 0xEC e in
          leads (row 5 (omega arith)) (omega arith) high

-- the ways out of `between`
pub ruleset ranges = (upto, under, past)
