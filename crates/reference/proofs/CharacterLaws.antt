-- The characters of a text, one after the other.
use mathlib.Core.Path.{◌≡◌, refl, sym, ap, ◌∙◌}
use mathlib.Core.Bool.{cond}
use mathlib.Core.List.{List, [], ◌∷◌, ◌++◌}
use Prim.Native.Nat.{ℕ, zero, suc, max, ◌≤◌, ◌<◌}
use native.Mathlib.Nat.{not-suc-le-zero}
use native.Mathlib.Omega.{arith}
use lib.Dec.{eqb, eqb-suc-zero}
use borrow.Author.Tests.{ne_eqb}
use lib.ListN.{length, take, drop, length-drop, take-append-drop}
use Rattle.utf8.specs.Utf8.{char_length, code_point}
use Rattle.utf8.proofs.LengthLaws.{char_inside}
use Rattle.utf8.proofs.PointLaws.{point_none, point_whole, point_single}
use Rattle.reference.specs.Trim.{width, first_characters, characters, text}

pub width_some : (s : List ℕ) (n : ℕ) → char_length s ≡ n → (n ≡ 0 → ⊥) → width s ≡ n
unfolding width
width_some s n e some = rw (e, ne_eqb n 0 some)

-- a character has a byte, and stands inside its text
pub width_pos : (s : List ℕ) → 0 < width s
unfolding width
width_pos s = go (char_length s)
  where
    go : (n : ℕ) → 0 < cond (eqb n 0) 1 n
    go zero = omega arith
    go (suc n) = rw (eqb-suc-zero n) (omega arith)

pub width_inside : (s : List ℕ) → 0 < length s → width s ≤ length s
unfolding width
width_inside s h = go (char_length s) (char_inside s)
  where
    go : (n : ℕ) → n ≤ length s → cond (eqb n 0) 1 n ≤ length s
    go zero l = h
    go (suc n) l = rw (eqb-suc-zero n) l

-- ---- the fuel is enough
none_in : (n : ℕ) (s : List ℕ) → length s ≤ 0 → first_characters n s ≡ []
unfolding first_characters
none_in zero s h = refl
none_in (suc n) [] h = refl
none_in (suc n) (b ∷ s) h = absurd (not-suc-le-zero h)

one_in : (n : ℕ) (s : List ℕ) → 0 < length s → first_characters (suc n) s ≡ take (width s) s ∷ first_characters n (drop (width s) s)
unfolding first_characters
one_in n [] h = absurd (not-suc-le-zero h)
one_in n (b ∷ s) h = refl

shorter : (n : ℕ) (s : List ℕ) → 0 < length s → length s ≤ suc n → length (drop (width s) s) ≤ n
shorter n s h l = omega (arith, length-drop (width s) s, width_pos s)

fuel : (n m : ℕ) (s : List ℕ) → length s ≤ n → length s ≤ m → first_characters n s ≡ first_characters m s
fuel zero m s h k = none_in zero s h ∙ sym (none_in m s h)
fuel (suc n) zero s h k = none_in (suc n) s k ∙ sym (none_in zero s k)
fuel (suc n) (suc m) s h k = go (length s) refl (λ l. fuel n m l)
  where
    go : (x : ℕ) → length s ≡ x → ((l : List ℕ) → length l ≤ n → length l ≤ m → first_characters n l ≡ first_characters m l)
        → first_characters (suc n) s ≡ first_characters (suc m) s
    go zero e more = none_in (suc n) s (omega arith) ∙ sym (none_in (suc m) s (omega arith))
    go (suc x) e more =
        let some : 0 < length s = omega arith in
        let rest : first_characters n (drop (width s) s) ≡ first_characters m (drop (width s) s) =
        more (drop (width s) s) (shorter n s some h) (shorter m s some k) in
        one_in n s some ∙ ap (λ (cs : List (List ℕ)). take (width s) s ∷ cs) rest ∙ sym (one_in m s some)

pub characters_none : (s : List ℕ) → length s ≤ 0 → characters s ≡ []
unfolding characters
characters_none s h = none_in (length s) s h

pub characters_more : (s : List ℕ) → 0 < length s → characters s ≡ take (width s) s ∷ characters (drop (width s) s)
unfolding characters
characters_more s h = go (length s) refl
  where
    go : (n : ℕ) → length s ≡ n → first_characters n s ≡ take (width s) s ∷ first_characters (length (drop (width s) s)) (drop (width s) s)
    go zero e = absurd (not-suc-le-zero {n = 0} (omega arith))
    go (suc n) e =
        one_in n s h
        ∙ ap (λ (cs : List (List ℕ)). take (width s) s ∷ cs)
        (fuel n (length (drop (width s) s)) (drop (width s) s) (shorter n s h (omega arith)) (omega arith))

-- going through a text character by character
pub by_characters : (P : List ℕ → Type 0) → ((s : List ℕ) → length s ≤ 0 → P s) → ((s : List ℕ) → 0 < length s → P (drop (width s) s) → P s)
    → (s : List ℕ) → P s
by_characters P empty more s = go (length s) s (omega arith)
  where
    go : (n : ℕ) (l : List ℕ) → length l ≤ n → P l
    go zero l h = empty l h
    go (suc n) l h = here (length l) refl (λ r. go n r)
      where
        here : (x : ℕ) → length l ≡ x → ((r : List ℕ) → length r ≤ n → P r) → P l
        here zero e below = empty l (omega arith)
        here (suc x) e below = more l (omega arith) (below (drop (width l) l) (shorter n l (omega arith) h))

-- the characters make the text
pub text_characters : (s : List ℕ) → text (characters s) ≡ s
unfolding text
text_characters = by_characters (λ s. text (characters s) ≡ s) empty more
  where
    nil : (s : List ℕ) → length s ≤ 0 → [] ≡ s
    nil [] h = refl
    nil (b ∷ s) h = absurd (not-suc-le-zero h)

    empty : (s : List ℕ) → length s ≤ 0 → text (characters s) ≡ s
    empty s h = ap text (characters_none s h) ∙ nil s h

    more : (s : List ℕ) → 0 < length s → text (characters (drop (width s) s)) ≡ drop (width s) s → text (characters s) ≡ s
    more s h e = ap text (characters_more s h) ∙ ap (λ (l : List ℕ). take (width s) s ++ l) e ∙ take-append-drop (width s) s

-- a character alone is the one at the front of its text
pub point_front : (s : List ℕ) → code_point (take (width s) s) ≡ code_point s
unfolding width
point_front s = go (char_length s) refl
  where
    go : (n : ℕ) → char_length s ≡ n → code_point (take (cond (eqb n 0) 1 n) s) ≡ code_point s
    go zero e = point_single s e ∙ sym (point_none s e)
    go (suc n) e = rw (eqb-suc-zero n) (point_whole s (suc n) e (omega arith))

-- the length of a character, 1 at the least
pub width_max : (s : List ℕ) → max (char_length s) 1 ≡ width s
unfolding width
width_max s = go (char_length s)
  where
    go : (n : ℕ) → max n 1 ≡ cond (eqb n 0) 1 n
    go zero = refl
    go (suc n) = rw (eqb-suc-zero n) (omega arith)
