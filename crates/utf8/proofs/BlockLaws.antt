-- Blocks of bytes below 128, characters, and the loops over them: what each keeps, and the turn that keeps it.
use mathlib.Core.Path.{◌≡◌, refl, sym, ap, ◌∙◌, subst}
use mathlib.Core.Bool.{Bool, true, false}
use mathlib.Core.List.{List, ◌∷◌, Memᴰ}
use Prim.Native.Nat.{ℕ, zero, suc, ◌+◌, ◌-◌, ◌≤◌, ◌<◌}
use native.Mathlib.Nat.{not-suc-le-zero, le_of_suc-le-suc, add-zero}
use native.Mathlib.Omega.{arith}
use lib.Bits.{bit_or, or_add_and, and_le_l, and_le_r}
use lib.Dec.{ltb}
use lib.ListN.{length, take, drop, get_or, length-drop, drop_of_length-le}
use lib.Seq.{drop-drop, take_all}
use borrow.Author.Tests.{ltb-true, ltb-false}
use Rattle.std.proofs.lemmas.List.{get_or-take, get_or-drop}
use Rattle.utf8.specs.Utf8.{Range, tails, table, begins, char_length, utf8_length, Passed}
use Rattle.utf8.proofs.TableLaws.{char_begins}
use Rattle.utf8.proofs.RowLaws.{row}
use Rattle.utf8.proofs.LengthLaws.{char_inside, length_plain, length_none, length_more, length_end}

-- the n bytes from i on are below 128
abbrev pub Run : List ℕ → ℕ → ℕ → Type 0
Run s i n = (k : ℕ) → k < n → get_or s (i + k) 0 < 128

or_small : (a b : ℕ) → bit_or a b < 128 → (a < 128) × (b < 128)
or_small a b h = omega (arith, or_add_and a b, and_le_l a b, and_le_r a b)

run_join : (s : List ℕ) (i n m : ℕ) → Run s i n → Run s (i + n) m → Run s i (n + m)
run_join s i n m a b k h = go (ltb k n) refl
  where
    go : (t : Bool) → ltb k n ≡ t → get_or s (i + k) 0 < 128
    go true e = a k (ltb-true k n e)
    go false e =
        let low : n ≤ k = ltb-false k n e in
        let at : i + n + (k - n) ≡ i + k = omega arith in
        subst (λ (j : ℕ). get_or s j 0 < 128) at (b (k - n) (omega arith))

pub run_one : (s : List ℕ) (i : ℕ) → get_or s i 0 < 128 → Run s i 1
run_one s i h zero l = rw add-zero h
run_one s i h (suc k) l = absurd (not-suc-le-zero (le_of_suc-le-suc l))

-- the loop of `joined`: a byte more
pub run_turn : (s : List ℕ) (i n m bits : ℕ) → i + m ≤ length s → n < m → (bits < 128 → Run s i n)
    → bit_or bits (get_or (take (i + m - i) (drop i s)) n 0) < 128 → Run s i (n + 1)
run_turn s i n m bits h low inv e =
    let here : get_or (take (i + m - i) (drop i s)) n 0 ≡ get_or s (i + n) 0 =
    get_or-take (i + m - i) (drop i s) n 0 (omega arith) ∙ get_or-drop i s n 0 in
    let o : (bits < 128) × (get_or (take (i + m - i) (drop i s)) n 0 < 128) = or_small bits _ e in
    run_join s i n 1 (inv o.0) (run_one s (i + n) (rw here at o.1))

-- the loop of `blocks_64`
pub blocks_first : {s : List ℕ} {from : ℕ} → from ≤ length s → Passed s from from
blocks_first h = record { low = omega arith; high = h; same = omega arith }

pub blocks_turn : {s : List ℕ} {from i : ℕ} → Passed s from i → (n : ℕ) → n ≤ length s - i → Run s i n → Passed s from (i + n)
blocks_turn {s} {from} {i} inv n h run =
    let fits : i + n ≤ length s = omega (arith, inv.high) in
    record { low = omega (arith, inv.low); high = fits; same = omega (arith, inv.low, inv.same, length_plain n i s fits run) }

-- one part behind the other
pub blocks_on : {s : List ℕ} {from i r : ℕ} → Passed s from i → Passed s i r → Passed s from r
blocks_on p q = record { low = omega (arith, p.low, q.low); high = q.high; same = omega (arith, p.low, q.low, p.same, q.same) }

-- a character and what stands behind it
char_on : {s : List ℕ} {i : ℕ} (n : ℕ) → char_length (drop i s) ≡ n → 0 < n → Passed s i (i + n)
char_on {s} {i} n e pos =
    let inside : n ≤ length s - i = omega (arith, e, char_inside (drop i s), length-drop i s) in
    let more : utf8_length (drop i s) ≡ n + utf8_length (drop n (drop i s)) = length_more (drop i s) n e pos in
    let next : utf8_length (drop n (drop i s)) ≡ utf8_length (drop (i + n) s) = ap utf8_length (drop-drop n i s) in
    record { low = omega arith; high = omega arith; same = omega arith }

-- the rows of `two` and `three`
row_on : {s : List ℕ} {i : ℕ} {row : List Range} → Memᴰ row table → 0 < length row → begins row (drop i s) ≡ true → Passed s i (i + length row)
row_on {s} {i} {row} m pos e = char_on (length row) (char_begins m (drop i s) e) pos

pub two_on : (s : List ℕ) (i : ℕ) → begins ((0xC2, 0xDF) ∷ tails 1) (drop i s) ≡ true → Passed s i (i + 2)
unfolding table
two_on s i e = row_on (row 1 (omega arith)) (omega arith) e

pub three_on : (s : List ℕ) (i : ℕ) → begins ((0xE1, 0xEC) ∷ tails 2) (drop i s) ≡ true → Passed s i (i + 3)
unfolding table
three_on s i e = row_on (row 3 (omega arith)) (omega arith) e

-- `onward`: a run, and a character or none
abbrev Onward : List ℕ → ℕ → ℕ → Type 0
Onward s i r = Passed s i r × (r ≡ i → utf8_length (drop i s) ≡ 0)

pub onward_run : {s : List ℕ} {i r : ℕ} → Passed s i r → i < r → Onward s i r
onward_run p h = (p, λ e. absurd (not-suc-le-zero {n = 0} (omega arith)))

pub onward_char : (s : List ℕ) (i : ℕ) {n : ℕ} → i ≤ length s → n ≡ char_length (take (length s - i) (drop i s)) → Onward s i (i + n)
onward_char s i {n} h e = go n (ap char_length (sym (take_all (length s - i) (drop i s) (omega (arith, length-drop i s)))) ∙ sym e)
  where
    go : (n : ℕ) → char_length (drop i s) ≡ n → Onward s i (i + n)
    go zero q = (rw add-zero (blocks_first h), λ z. length_none (drop i s) q)
    go (suc n) q = onward_run (char_on (suc n) q (omega arith)) (omega arith)

-- the loop of `utf8_length`
module _ {s : List ℕ} {i : ℕ} (inv : Passed s 0 i) where
  pub length_done : utf8_length (drop i s) ≡ 0 → (i ≡ utf8_length s) × (i ≤ length s)
  length_done e = omega (arith, inv.same, inv.high)

  pub length_past : length s ≤ i → (i ≡ utf8_length s) × (i ≤ length s)
  length_past h = length_done (ap utf8_length (drop_of_length-le s h) ∙ length_end)

-- how the loop of `utf8_length` goes
pub ruleset lengths = (blocks_first, length_done, blocks_on, length_past)
