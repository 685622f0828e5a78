-- The item at an index, by the byte that stands there, and the loops that find the end of its run.
use mathlib.Core.Path.{◌≡◌, refl, sym, ap, ap₂, ◌∙◌}
use Prim.Native.Nat.{ℕ, zero, suc, ◌+◌, ◌-◌, ◌≤◌, ◌<◌}
use native.Mathlib.Omega.{arith}
use native.Mathlib.Nat.{add-zero}
use native.Mathlib.Numerals.{add-one}
use mathlib.Core.List.{List, [], ◌∷◌}
use mathlib.Core.Bool.{Bool, true, false, ◌&&◌, and-false}
use lib.Dec.{leb, eqb}
use lib.ListN.{length, take, drop, get_or, length-drop}
use lib.Seq.{drop-cons, drop-drop, get_or-drop, get_or-take, length-take-le}
use borrow.Author.Tests.{lt-leb, eq-eqb, ne_eqb, eqb-true, eqb-false}
use Rattle.pitch.specs.Pitch.{within}
use Rattle.pitch.proofs.Letters.{within_low}
use Rattle.duration.specs.Duration.{duration_of}
use Rattle.duration.specs.Ratio.{is_ratio, spelled_value}
use Rattle.duration.specs.declared.Value.{Value}
use Rattle.std.specs.Prelude.{Option}
use Rattle.items.specs.Items.{is_digit, is_letter, is_number, joins, more, first, length_item, goes_on, first_piece, next_item}
use Rattle.items.specs.declared.Item.{Item}
use Rattle.items.specs.declared.Item.TheVariants.{Digits, Ratio, Letters, Blank, Mark}
use Rattle.items.proofs.ItemLaws.{item_length, length_digits, length_ratio, item_letters, item_blank, item_mark}
use Rattle.items.proofs.PieceLaws.{first_low, digits_alone, percent_in, on_more, piece_plain, piece_ratio, piece_low}
use Rattle.items.proofs.RunLaws.{next_is, run_to}

-- ---- which bytes stand in one run
above : (b low high : ℕ) → high < b → within low high b ≡ false
unfolding within
above b low high h = rw (lt-leb b high h) (and-false (leb low b))

pub letter_no_digit : (b : ℕ) → is_letter b ≡ true → is_digit b ≡ false
unfolding is_letter
letter_no_digit b e = go (within 97 103 b) refl
  where
    go : (t : Bool) → within 97 103 b ≡ t → is_digit b ≡ false
    go true p = above b 48 57 (omega (arith, within_low 97 103 b p))
    go false p = above b 48 57 (omega (arith, within_low 65 71 b (rw p at e)))

pub digit_joins : (a b : ℕ) → is_digit a ≡ true → joins a b ≡ is_digit b
unfolding joins
digit_joins a b d = rw d

letter_joins : (a b : ℕ) → is_letter a ≡ true → joins a b ≡ eqb b a
unfolding joins
letter_joins a b l = rw (letter_no_digit a l, l)

mark_joins : (a b : ℕ) → is_digit a ≡ false → is_letter a ≡ false → joins a b ≡ false
unfolding joins
mark_joins a b d l = rw (d, l)

-- ---- the end of a run of digits, and of one letter
module _ (s : List ℕ) (from e : ℕ) (low : from + 1 ≤ e) (high : e ≤ length s) where
  -- what holds of the first byte and of each behind it holds of the byte before each
  all_of : (f : ℕ → Bool) → f (get_or s from 0) ≡ true → ((j : ℕ) → from + 1 ≤ j → j < e → f (get_or s j 0) ≡ true) → (k : ℕ) → from ≤ k → k < e → f (get_or s k 0) ≡ true
  all_of f first each k l h = go (eqb k from) refl
    where
      go : (t : Bool) → eqb k from ≡ t → f (get_or s k 0) ≡ true
      go true q = rw (eqb-true k from q) first
      go false q = let ne = eqb-false k from q in each k (omega arith) h

  pub digits_run : is_digit (get_or s from 0) ≡ true → ((j : ℕ) → from + 1 ≤ j → j < e → is_digit (get_or s j 0) ≡ true)
      → (e < length s → is_digit (get_or s e 0) ≡ false) → e ≡ from + first (drop from s)
  digits_run first each stop =
      let all = all_of is_digit first each in
      run_to s from e (omega arith) high
      (λ j l h. digit_joins _ (get_or s j 0) (all (j - 1) (omega arith) (omega arith)) ∙ each j (omega arith) h)
      (λ h. digit_joins _ (get_or s e 0) (all (e - 1) (omega arith) (omega arith)) ∙ stop h)

  pub letter_run : (c : ℕ) → c ≡ get_or s from 0 → is_letter (get_or s from 0) ≡ true → ((j : ℕ) → from + 1 ≤ j → j < e → eqb (get_or s j 0) c ≡ true)
      → (e < length s → eqb (get_or s e 0) c ≡ false) → e ≡ from + first (drop from s)
  letter_run c q l each stop =
      let all = all_of (λ b. eqb b c) (rw q (eq-eqb (get_or s from 0) (get_or s from 0) refl)) each in
      let is : is_letter c ≡ true = rw q l in
      run_to s from e (omega arith) high
      (λ j l h. rw (eqb-true _ _ (all (j - 1) (omega arith) (omega arith))) (letter_joins c (get_or s j 0) is ∙ each j (omega arith) h))
      (λ h. rw (eqb-true _ _ (all (e - 1) (omega arith) (omega arith))) (letter_joins c (get_or s e 0) is ∙ stop h))

-- ---- where a ratio goes on
module _ (s : List ℕ) (i : ℕ) where
  pub on_here : i + 1 < length s → get_or s i 0 ≡ 37 → is_digit (get_or s (i + 1) 0) ≡ goes_on (drop i s)
  unfolding goes_on
  on_here h e = sym (rw (drop-cons s i 0 (omega arith), add-one i) (rw (drop-cons s (suc i) 0 (omega arith), eq-eqb _ _ e)))

  pub on_other : (get_or s i 0 ≡ 37 → ⊥) → false ≡ goes_on (drop i s)
  unfolding goes_on
  on_other n = go (drop i s) (get_or-drop i s 0 0 ∙ ap (λ (k : ℕ). get_or s k 0) (add-zero i))
    where
      go : (l : List ℕ) → get_or l 0 0 ≡ get_or s i 0 → false ≡ goes_on l
      go [] e = refl
      go (x ∷ []) e = refl
      go (x ∷ y ∷ ys) e = rw (ne_eqb x 37 (λ q. n (sym e ∙ q)))

  pub on_end : length s ≤ i + 1 → false ≡ goes_on (drop i s)
  unfolding goes_on
  on_end h = go (drop i s) (omega (arith, length-drop i s))
    where
      go : (l : List ℕ) → length l ≤ 1 → false ≡ goes_on l
      go [] e = refl
      go (x ∷ []) e = refl
      go (x ∷ y ∷ ys) e = absurd (omega arith)

pub ruleset going_on = (on_here, on_other, on_end)

-- ---- the item, by the byte at its start
module _ (s : List ℕ) (i : ℕ) (h : i < length s) where
  some_left : 0 < length (drop i s)
  some_left = omega (arith, length-drop i s)

  pub end_on : {e : ℕ} → e ≡ i + first (drop i s) → (i < e) × (e ≤ length s)
  end_on p = let f = first_low (drop i s) some_left in (omega arith, omega (arith, length-drop i s))

  module _ {e : ℕ} (p : e ≡ i + first_piece (drop i s)) where
    pub piece_on : (i < e) × (e ≤ length s)
    piece_on = let f = piece_low (drop i s) some_left in (omega arith, omega (arith, length-drop i s))

    some : length (take (e - i) (drop i s)) ≡ e - i
    some = length-take-le (e - i) (drop i s) (omega (arith, piece_on, length-drop i s))

    start_is : get_or (take (e - i) (drop i s)) 0 0 ≡ get_or s i 0
    start_is = get_or-take (e - i) (drop i s) 0 0 (omega (arith, piece_on)) ∙ get_or-drop i s 0 0 ∙ ap (λ (k : ℕ). get_or s k 0) (add-zero i)

    pub next_length : {d : Bool} → d ≡ is_digit (get_or s i 0) → d ≡ true → record { item = length_item (take (e - i) (drop i s)); end = e } ≡ next_item s i
    next_length q y = next_is s i p (item_length (take (e - i) (drop i s)) (λ z. omega (arith, piece_on, some)) (rw start_is q) y)

    letters_as : {d l : Bool} → d ≡ is_digit (get_or s i 0) → d ≡ false → l ≡ is_letter (get_or s i 0) → l ≡ true
        → record { item = Letters (get_or s i 0) (e - i); end = e } ≡ next_item s i
    letters_as q n r y =
        next_is s i p (ap₂ Letters (sym start_is) (sym some) ∙ item_letters (take (e - i) (drop i s)) (λ z. omega (arith, piece_on, some)) (rw start_is q) n (rw start_is r) y)

  number_is : is_number (drop i s) ≡ is_digit (get_or s i 0)
  number_is = ap is_digit (get_or-drop i s 0 0 ∙ ap (λ (k : ℕ). get_or s k 0) (add-zero i))

  -- a run that isn't of digits is a piece by itself
  run_piece : {e : ℕ} {d : Bool} → e ≡ i + first (drop i s) → d ≡ is_digit (get_or s i 0) → d ≡ false → e ≡ i + first_piece (drop i s)
  run_piece p q n = p ∙ ap (λ (k : ℕ). i + k) (sym (piece_plain (drop i s) (rw (number_is, sym q ∙ n))))

  pub next_letters : {e : ℕ} {d l : Bool} → e ≡ i + first (drop i s) → d ≡ is_digit (get_or s i 0) → d ≡ false → l ≡ is_letter (get_or s i 0) → l ≡ true
      → record { item = Letters (get_or s i 0) (e - i); end = e } ≡ next_item s i
  next_letters p q n r y = letters_as (run_piece p q n) q n r y

  -- digits, up to e
  module _ {e : ℕ} (p : e ≡ i + first (drop i s)) (y : is_digit (get_or s i 0) ≡ true) where
    behind_is : drop (first (drop i s)) (drop i s) ≡ drop e s
    behind_is = drop-drop (first (drop i s)) i s ∙ ap (λ (k : ℕ). drop k s) (sym p)

    tests_as : {t : Bool} → goes_on (drop e s) ≡ t → (is_number (drop i s) && goes_on (drop (first (drop i s)) (drop i s))) ≡ t
    tests_as t = rw (number_is, y, behind_is) t

    module _ {g : Bool} (q : g ≡ goes_on (drop e s)) where
      pub digits_piece : g ≡ false → e ≡ i + first_piece (drop i s)
      digits_piece t = p ∙ ap (λ (k : ℕ). i + k) (sym (piece_plain (drop i s) (tests_as (sym q ∙ t))))

      pub next_digits : g ≡ false → {v : Option Value} → v ≡ duration_of (take (e - i) (drop i s)) → record { item = Digits v; end = e } ≡ next_item s i
      next_digits t {v} r =
          let k : e - i ≡ first (drop i s) = omega arith in
          let n : is_ratio (take (e - i) (drop i s)) ≡ false = rw k (digits_alone (drop i s) (number_is ∙ y)) in
          ap (λ (x : Item). record { item = x; end = e }) (length_digits (take (e - i) (drop i s)) n r) ∙ next_length (digits_piece t) refl y

      module _ (t : g ≡ true) where
        behind : (suc zero < length (drop e s)) × (get_or (drop e s) 0 0 ≡ 37) × (is_digit (get_or (drop e s) 1 0) ≡ true)
        behind = on_more (drop e s) (sym q ∙ t)

        pub ratio_on : e + 1 < length s
        ratio_on = omega (arith, behind.0, length-drop e s)

        pub ratio_digit : is_digit (get_or s (e + 1) 0) ≡ true
        ratio_digit = ap is_digit (sym (get_or-drop e s 1 0)) ∙ behind.2

        module _ {f : ℕ} (r : f ≡ e + 1 + first (drop (e + 1) s)) where
          pub ratio_piece : f ≡ i + first_piece (drop i s)
          ratio_piece =
              let d : drop 1 (drop (first (drop i s)) (drop i s)) ≡ drop (e + 1) s = ap (drop 1) behind_is ∙ drop-drop 1 e s in
              let z : first_piece (drop i s) ≡ first (drop i s) + suc (first (drop (e + 1) s)) = rw d at (piece_ratio (drop i s) (tests_as (sym q ∙ t))) in
              omega arith

          percent_at : get_or (take (f - i) (drop i s)) (e - i) 0 ≡ 37
          percent_at =
              let b = end_on p in
              let k : e - i < f - i = omega arith in
              let z : i + (e - i) ≡ e + 0 = omega arith in
              get_or-take (f - i) (drop i s) (e - i) 0 k ∙ get_or-drop i s (e - i) 0 ∙ ap (λ (j : ℕ). get_or s j 0) z ∙ sym (get_or-drop e s 0 0) ∙ behind.1

          pub next_ratio : {v : Option Value} → v ≡ spelled_value (take (f - i) (drop i s)) → record { item = Ratio v; end = f } ≡ next_item s i
          next_ratio u =
              let n : is_ratio (take (f - i) (drop i s)) ≡ true = percent_in (take (f - i) (drop i s)) (e - i) (omega (arith, end_on p, some ratio_piece)) percent_at in
              ap (λ (x : Item). record { item = x; end = f }) (length_ratio (take (f - i) (drop i s)) n u) ∙ next_length ratio_piece refl y

  -- a byte that joins none behind it is a run of its own
  alone : ((b : ℕ) → joins (get_or s i 0) b ≡ false) → i + 1 ≡ i + first (drop i s)
  unfolding first more
  alone none = sym (ap (λ (l : List ℕ). i + first l) (drop-cons s i 0 h) ∙ last (drop (suc i) s))
    where
      last : (l : List ℕ) → i + suc (more (get_or s i 0) l) ≡ i + 1
      last [] = refl
      last (b ∷ l) = rw (none b)

  module _ {d l : Bool} (q : d ≡ is_digit (get_or s i 0)) (n : d ≡ false) (r : l ≡ is_letter (get_or s i 0)) (m : l ≡ false) where
    single : i + 1 ≡ i + first_piece (drop i s)
    single = run_piece (alone (λ b. mark_joins (get_or s i 0) b (sym q ∙ n) (sym r ∙ m))) q n

    pub next_blank : get_or s i 0 ≡ 32 → record { item = Blank; end = i + 1 } ≡ next_item s i
    next_blank y =
        let t = start_is single in
        next_is s i single (item_blank (take (i + 1 - i) (drop i s)) (λ z. omega (arith, some single)) (rw t q) n (rw t r) m (rw t y))

    pub next_mark : (get_or s i 0 ≡ 32 → ⊥) → record { item = Mark (get_or s i 0); end = i + 1 } ≡ next_item s i
    next_mark y =
        let t = start_is single in
        next_is s i single (ap Mark (sym t) ∙ item_mark (take (i + 1 - i) (drop i s)) (λ z. omega (arith, some single)) (rw t q) n (rw t r) m (rw t y))

-- the ways out of `next_item`
pub ruleset next_items = (end_on, next_letters, next_blank, next_mark)

-- the ways out of `length_end` and `length_at`
pub ruleset lengths = (end_on, ratio_on, ratio_digit, digits_piece, ratio_piece, next_digits, next_ratio)

-- where a run or a piece ends
pub ruleset ends = (end_on, piece_on)
