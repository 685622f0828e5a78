-- The entries of a list laid in a lent array.
use mathlib.Core.Path.{◌≡◌, refl, sym, ap, ap₂, ◌∙◌}
use Prim.Native.Nat.{ℕ, ◌+◌, ◌-◌, ◌*◌, ◌≤◌, ◌<◌}
use native.Mathlib.Numerals.{add-one}
use native.Mathlib.Omega.{arith}
use mathlib.Core.List.{List, [], ◌∷◌, ◌++◌, append_assoc, append-nil}
use lib.ListN.{length, get_or, take, drop, drop_of_length-le}
use lib.Seq.{take_at, drop_at, take-suc, drop-drop, take_all, length-take-le}
use borrow.Author.Tests.{le-leb}
use Rattle.slices.specs.Store.{stored}
use Rattle.holders.specs.declared.list.Holder.{Holder}
use Rattle.holders.specs.Holders.{Five}
use Rattle.std.specs.Prelude.{Result, Ok, Err}
use Rattle.refusal.specs.declared.Refusal.{Refusal}
use Rattle.refusal.specs.declared.Refusal.TheVariants.{StaffFull}
use Rattle.reader.specs.Answer.{numbers_of}
use Rattle.staff.proofs.FillingLaws.{eight}
use Rattle.kern_ffi.specs.Answer.{number_of, entry_numbers, FiveEntries}

numbers_length : (xs : List Holder) → length (entry_numbers xs) ≡ 3 * length xs
unfolding entry_numbers
numbers_length [] = refl
numbers_length (x ∷ xs) = omega (arith, numbers_length xs)

numbers_append : (xs ys : List Holder) → entry_numbers (xs ++ ys) ≡ entry_numbers xs ++ entry_numbers ys
unfolding entry_numbers
numbers_append [] ys = refl
numbers_append (x ∷ xs) ys = ap (λ (l : List ℕ). x.column ∷ x.voice ∷ x.header ∷ l) (numbers_append xs ys)

-- the first i entries stand in the array
pub record Laid (old : List ℕ) (entries : List Holder) (lines : List ℕ) (i : ℕ) : Type 0 where
  pub same : lines ≡ entry_numbers (take i entries) ++ drop (3 * i) old

pub laid_first : (old : List ℕ) (entries : List Holder) → Laid old entries old 0
unfolding entry_numbers
laid_first old entries = record { same = refl }

first_long : (entries : List Holder) (i : ℕ) → i ≤ length entries → length (entry_numbers (take i entries)) ≡ 3 * i
first_long entries i h = numbers_length (take i entries) ∙ ap (λ (n : ℕ). 3 * n) (length-take-le i entries h)

module _ {old : List ℕ} {entries : List Holder} {lines : List ℕ} {i : ℕ} (inv : Laid old entries lines i) where
  pub laid_turn : {values : List ℕ} (d : Holder) → i < length entries → values ≡ entry_numbers (get_or entries i d ∷ [])
      → Laid old entries (take (3 * i) lines ++ (values ++ drop (3 * i + 3 - 3 * i) (drop (3 * i) lines))) (i + 1)
  laid_turn {values} d h e = record {
    same = ap₂ (λ (a b : List ℕ). a ++ (values ++ b)) front back ∙ sym (append_assoc (entry_numbers (take i entries)) values (drop (3 * (i + 1)) old))
        ∙ ap (λ (l : List ℕ). l ++ drop (3 * (i + 1)) old) (sym more);
  }
    where
      long : length (entry_numbers (take i entries)) ≡ 3 * i
      long = first_long entries i (omega (arith, h))

      front : take (3 * i) lines ≡ entry_numbers (take i entries)
      front = ap (take (3 * i)) inv.same ∙ take_at (entry_numbers (take i entries)) (drop (3 * i) old) (3 * i) long

      back : drop (3 * i + 3 - 3 * i) (drop (3 * i) lines) ≡ drop (3 * (i + 1)) old
      back =
          let three : 3 * i + 3 - 3 * i ≡ 3 = omega arith in
          let y : 3 * i + 3 ≡ 3 * (i + 1) = omega arith in
          ap (λ (n : ℕ). drop n (drop (3 * i) lines)) three
          ∙ ap (drop 3) (ap (drop (3 * i)) inv.same ∙ drop_at (entry_numbers (take i entries)) (drop (3 * i) old) (3 * i) long)
          ∙ drop-drop 3 (3 * i) old ∙ ap (λ (n : ℕ). drop n old) y

      more : entry_numbers (take (i + 1) entries) ≡ entry_numbers (take i entries) ++ values
      more =
          ap (λ (n : ℕ). entry_numbers (take n entries)) (add-one i)
          ∙ ap entry_numbers (take-suc entries i d h)
          ∙ numbers_append (take i entries) (get_or entries i d ∷ []) ∙ ap (λ (l : List ℕ). entry_numbers (take i entries) ++ l) (sym e)

  pub laid_past : i ≡ length entries → 3 * length entries ≤ length old → lines ≡ stored old (entry_numbers entries)
  unfolding stored
  laid_past e h =
      let whole : take i entries ≡ entries = take_all i entries (omega (arith, e)) in
      let size : length (entry_numbers entries) ≡ 3 * i = numbers_length entries ∙ ap (λ (n : ℕ). 3 * n) (sym e) in
      rw (le-leb (length (entry_numbers entries)) (length old) (omega (arith, size, e, h)), size) (rw whole at inv.same)

-- an answer of number 8 is that of a full staff, whose five entries fill the array
pub five_entries : (old : List ℕ) (answer : Result ℕ Refusal) → number_of (numbers_of answer) ≡ 8 → {lines : List ℕ} {entries given : List Holder}
    → ((k q : ℕ) → answer ≡ Err (StaffFull k q) → Five entries) → given ≡ entries → lines ≡ stored old (entry_numbers given) → length old ≡ 15 → FiveEntries lines
unfolding stored
five_entries old (Ok n) z f g e l = absurd (omega arith)
five_entries old (Err r) z {lines = lines} {entries} f g e l = record { entries = entries; five = five; same = e ∙ ap (λ (hs : List Holder). stored old (entry_numbers hs)) g ∙ whole }
  where
    five : Five entries
    five = let x = eight r z in f x.0 x.1.0 (ap Err x.1.1)

    long : length (entry_numbers entries) ≡ 15
    long = numbers_length entries ∙ ap (λ (n : ℕ). 3 * n) five.five

    whole : stored old (entry_numbers entries) ≡ entry_numbers entries
    whole = rw (le-leb (length (entry_numbers entries)) (length old) (omega (arith, long, l)))
        (ap (λ (xs : List ℕ). entry_numbers entries ++ xs) (drop_of_length-le old {i = length (entry_numbers entries)} (omega (arith, long, l))) ∙ append-nil (entry_numbers entries))
