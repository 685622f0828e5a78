-- The length of the well-formed part, one character further.
use mathlib.Core.Path.{◌≡◌, refl, sym, ap, ◌∙◌}
use mathlib.Core.Bool.{cond}
use mathlib.Core.List.Memᴰ
use mathlib.Core.List.{List, [], ◌∷◌, append-nil}
use Prim.Native.Nat.{ℕ, zero, suc, min, ◌+◌, ◌-◌, ◌≤◌, ◌<◌}
use native.Mathlib.Nat.{not-suc-le-zero, add-suc, suc-add, add-zero}
use native.Mathlib.Numerals.{add-one}
use native.Mathlib.Omega.{arith}
use lib.Dec.{eqb, eqb-suc-zero}
use lib.ListN.{length, take, drop, get_or, length-drop, length-take, take-append-drop}
use lib.Seq.{drop-cons, drop-drop, take-take, length-take-le}
use Rattle.utf8.specs.Utf8.{table, first_of, begins, char_length, chars_length, utf8_length}
use Rattle.utf8.proofs.TableLaws.{char_lead, char_of, front, Front}

char_none : char_length [] ≡ 0
unfolding char_length first_of table begins
char_none = refl

pub char_empty : (s : List ℕ) → length s ≡ 0 → char_length s ≡ 0
char_empty [] e = char_none
char_empty (b ∷ s) e = absurd (not-suc-le-zero {n = 0} (omega arith))

pub char_front : (s : List ℕ) (n : ℕ) → char_length s ≡ n → 0 < n → Front table s n
unfolding char_length
char_front s n e pos = front table s n e pos

-- a character stands inside its text
pub char_inside : (s : List ℕ) → char_length s ≤ length s
char_inside s = go (char_length s) refl
  where
    go : (n : ℕ) → char_length s ≡ n → n ≤ length s
    go zero e = omega arith
    go (suc k) e = (char_front s (suc k) e (omega arith)).inside

-- a character at the front of a beginning is the text's, and alone it is still one
pub char_take : (s : List ℕ) (m n : ℕ) → char_length (take m s) ≡ n → 0 < n → char_length s ≡ n
char_take s m n e pos =
    let f : Front table (take m s) n = char_front (take m s) n e pos in
    let l : length (take m s) ≡ min m (length s) = length-take m s in
    let front : take n (take m s) ≡ take n s = take-take n m s (omega (arith, f.inside)) in
    let long : length (take n s) ≡ n = length-take-le n s (omega (arith, f.inside)) in
    ap char_length (sym (take-append-drop n s)) ∙ char_of f.listed (rw front at f.spelled) (drop n s) ∙ long

pub char_whole : (s : List ℕ) (n : ℕ) → char_length s ≡ n → 0 < n → char_length (take n s) ≡ n
char_whole s n e pos =
    let f : Front table s n = char_front s n e pos in
    ap char_length (sym (append-nil (take n s))) ∙ char_of f.listed f.spelled [] ∙ length-take-le n s f.inside

-- a byte below 128 is a character
pub char_plain : (b : ℕ) (s : List ℕ) → b < 128 → char_length (b ∷ s) ≡ 1
unfolding table begins
char_plain b s h = char_lead (Memᴰ.head refl) b s (omega arith) (omega arith)

-- ---- the fuel is enough
chars_none : (n : ℕ) → chars_length n [] ≡ 0
unfolding chars_length
chars_none zero = refl
chars_none (suc n) = rw char_none

chars_empty : (n : ℕ) (s : List ℕ) → length s ≤ 0 → chars_length n s ≡ 0
chars_empty n [] h = chars_none n
chars_empty n (b ∷ s) h = absurd (not-suc-le-zero h)

fuel : (n m : ℕ) (s : List ℕ) → length s ≤ n → length s ≤ m → chars_length n s ≡ chars_length m s
unfolding chars_length
fuel zero m s h k = sym (chars_empty m s h)
fuel (suc n) zero s h k = chars_empty (suc n) s k
fuel (suc n) (suc m) s h k = go (char_length s) (λ l. fuel n m l)
  where
    go : (c : ℕ) → ((l : List ℕ) → length l ≤ n → length l ≤ m → chars_length n l ≡ chars_length m l)
        → cond (eqb c 0) 0 (c + chars_length n (drop c s)) ≡ cond (eqb c 0) 0 (c + chars_length m (drop c s))
    go zero more = refl
    go (suc c) more =
        let l : length (drop (suc c) s) ≡ length s - suc c = length-drop (suc c) s in
        rw (eqb-suc-zero c) (ap (λ (x : ℕ). suc c + x) (more (drop (suc c) s) (omega arith) (omega arith)))

-- a text that begins with no character
pub length_none : (s : List ℕ) → char_length s ≡ 0 → utf8_length s ≡ 0
unfolding utf8_length chars_length
length_none [] e = refl
length_none (b ∷ s) e = rw e

-- a text that begins with a character of n bytes
pub length_more : (s : List ℕ) (n : ℕ) → char_length s ≡ n → 0 < n → utf8_length s ≡ n + utf8_length (drop n s)
unfolding utf8_length chars_length
length_more s zero e pos = absurd (not-suc-le-zero pos)
length_more [] (suc n) e pos = let z : 0 ≡ suc n = sym char_none ∙ e in absurd (not-suc-le-zero {n = 0} (omega arith))
length_more (b ∷ s) (suc n) e pos =
    let l : length (drop n s) ≡ length s - n = length-drop n s in
    rw (e, eqb-suc-zero n) (ap (λ (x : ℕ). suc n + x) (fuel (length s) (length (drop n s)) (drop n s) (omega arith) (omega arith)))

pub length_end : utf8_length [] ≡ 0
unfolding utf8_length chars_length
length_end = refl

-- a run of n bytes below 128 from i on
pub length_plain : (n i : ℕ) (s : List ℕ) → i + n ≤ length s → ((k : ℕ) → k < n → get_or s (i + k) 0 < 128)
    → utf8_length (drop i s) ≡ n + utf8_length (drop (i + n) s)
length_plain zero i s h low = rw add-zero (omega arith)
length_plain (suc n) i s h low =
    let here : get_or s i 0 < 128 = rw add-zero at (low 0 (omega arith)) in
    let hi : i < length s = omega arith in
    let front : char_length (drop i s) ≡ 1 = ap char_length (drop-cons s i 0 hi) ∙ char_plain (get_or s i 0) (drop (suc i) s) here in
    let next : drop 1 (drop i s) ≡ drop (suc i) s = drop-drop 1 i s ∙ ap (λ (k : ℕ). drop k s) (add-one i) in
    let more : utf8_length (drop (suc i) s) ≡ n + utf8_length (drop (suc i + n) s) =
    length_plain n (suc i) s (omega arith) (λ k kn. rw (suc-add, ← add-suc i k) (low (suc k) (omega arith))) in
    let last : i + suc n ≡ suc i + n = omega arith in
    length_more (drop i s) 1 front (omega arith) ∙ rw (next, more, last) (omega arith)
