-- What a neighbour offers, and the searches for signs and for what forbids it.
use mathlib.Core.Path.{◌≡◌, refl, sym, ap, ◌∙◌}
use Prim.Native.Nat.{ℕ, ◌+◌, ◌≤◌, ◌<◌}
use native.Mathlib.Omega.{arith}
use mathlib.Core.List.{List, [], ◌∷◌}
use mathlib.Core.Bool.{Bool, true, false, cond, ◌&&◌, ◌||◌, false≢true}
use lib.Dec.{eqb}
use lib.ListN.{length, take, drop}
use borrow.Author.Tests.{eq-eqb, ne_eqb}
use Rattle.std.specs.Prelude.{Some, None, slice_get}
use Rattle.std.specs.List.{list_all, list_any}
use Rattle.slices.proofs.TestLaws.{both}
use Rattle.duration.specs.Duration.{duration_of, digits, counts}
use Rattle.duration.specs.Ratio.{is_ratio, spelled_value}
use Rattle.slices.specs.Compare.{same_bytes}
use Rattle.duration.specs.declared.Value.{Value}
use Rattle.pitch.specs.Pitch.{within}
use Rattle.notation.specs.Bytes.{contains, trim_start}
use Rattle.items.specs.Items.{is_digit, is_letter, is_number, first_piece}
use Rattle.items.proofs.NextLaws.{letter_no_digit}
use Rattle.items.proofs.PieceLaws.{piece_low}
use Rattle.token.specs.Token.{signs}
use Rattle.peers.specs.Peers.{only_signs, is_bare, leading, forbids, offer_of, Offered}
use Rattle.peers.proofs.LeadingLaws.{leading_none, leading_some, leading_twice}

-- ---- signs only
pub all_signs : (s : List ℕ) → list_all (λ x. contains x signs) s ≡ only_signs s
unfolding only_signs
all_signs [] = refl
all_signs (x ∷ xs) = ap (λ t. contains x signs && t) (all_signs xs)

-- ---- a bare token
pub bare_none : (s : List ℕ) → None ≡ slice_get s 0 → false ≡ is_bare s
unfolding is_bare
bare_none [] h = refl
bare_none (x ∷ xs) h = cc

pub bare_some : (s : List ℕ) (c : ℕ) → Some c ≡ slice_get s 0 → (is_letter c && only_signs (trim_start c s)) ≡ is_bare s
unfolding is_bare
bare_some [] c h = cc
bare_some (x ∷ xs) c h = let e : c ≡ x = cc in rw e

-- ---- a blank, a point or a `%`
pub any_forbids : (s : List ℕ) → list_any (λ x. eqb x 32 || eqb x 46 || eqb x 37) s ≡ forbids s
unfolding forbids contains
any_forbids [] = refl
any_forbids (x ∷ xs) =
    ap (λ t. (eqb x 32 || eqb x 46 || eqb x 37) || t) (any_forbids xs)
    ∙ go (eqb x 32) (eqb x 46) (eqb x 37) (contains 32 xs) (contains 46 xs) (contains 37 xs)
  where
    go : (a b c d e f : Bool) → (((a || b) || c) || (d || (e || f))) ≡ ((a || d) || ((b || e) || (c || f)))
    go true b c d e f = refl
    go false true c true e f = refl
    go false true c false e f = refl
    go false false true true e f = refl
    go false false true false true f = refl
    go false false true false false f = refl
    go false false false d e f = refl

-- ---- what a neighbour offers, by the ways out of the code
-- nothing has no value
pub no_value : spelled_value [] ≡ None
unfolding spelled_value is_ratio duration_of same_bytes counts digits
no_value = refl

no_byte : is_number [] ≡ false
unfolding within
no_byte = refl

offer_none : (t : List ℕ) → spelled_value (leading t) ≡ None → offer_of t ≡ []
unfolding offer_of
offer_none t h = rw h (go (forbids (drop (length (leading t)) t)) (eqb (length (leading t)) (length t)))
  where
    go : (a b : Bool) → ◌≡◌ {A = List ℕ} (cond a [] (cond b [] [])) []
    go true b = refl
    go false true = refl
    go false false = refl

pub offer_nothing : (t : List ℕ) → is_number t ≡ false → offer_of t ≡ []
offer_nothing t e = offer_none t (ap spelled_value (leading_none t e) ∙ no_value)

-- a text by its first byte
pub no_first : (t : List ℕ) → None ≡ slice_get t 0 → offer_of t ≡ []
no_first [] h = offer_nothing [] no_byte
no_first (x ∷ xs) h = cc

pub no_digit : (t : List ℕ) {x : ℕ} → Some x ≡ slice_get t 0 → is_digit x ≡ false → offer_of t ≡ []
no_digit [] h n = cc
no_digit (y ∷ t) {x} h n = let e : x ≡ y = cc in offer_nothing (y ∷ t) (ap is_digit (sym e) ∙ n)

-- the length at its front, and what is behind
pub record Led (t bytes rest : List ℕ) : Type 0 where
  pub front : bytes ≡ leading t
  pub back : rest ≡ drop (length (leading t)) t
  pub all : length rest + length (leading t) ≡ length t

module _ (t : List ℕ) {x : ℕ} (e : Some x ≡ slice_get t 0) (d : is_digit x ≡ true) where
  pub piece_inside : first_piece t ≤ length t
  piece_inside = (piece_low t (some t e)).1
    where
      some : (t : List ℕ) → Some x ≡ slice_get t 0 → 0 < length t
      some [] e = cc
      some (y ∷ t) e = omega arith

  pub led : {k : ℕ} {bytes rest : List ℕ} → k ≡ 0 + first_piece t → bytes ≡ take k t → rest ≡ drop k t → length bytes ≡ k → length rest + k ≡ length t → Led t bytes rest
  led {k} {bytes} {rest} p q r m n =
      let f : k ≡ first_piece t = omega arith in
      let l : bytes ≡ leading t = q ∙ ap (λ (j : ℕ). take j t) f ∙ sym (leading_some t (digit t e)) in
      let s : length (leading t) ≡ k = ap length (sym l) ∙ m in
      record { front = l; back = r ∙ ap (λ (j : ℕ). drop j t) (sym s); all = omega arith }
    where
      digit : (t : List ℕ) → Some x ≡ slice_get t 0 → is_number t ≡ true
      digit [] e = cc
      digit (y ∷ t) e = let z : x ≡ y = cc in ap is_digit (sym z) ∙ d

module _ {t bytes rest : List ℕ} (l : Led t bytes rest) where
  pub offer_whole : length rest ≡ 0 → offer_of t ≡ []
  unfolding offer_of
  offer_whole h = rw (eq-eqb (length (leading t)) (length t) (omega (arith, l.all))) (go (forbids (drop (length (leading t)) t)))
    where
      go : (b : Bool) → ◌≡◌ {A = List ℕ} (cond b [] []) []
      go true = refl
      go false = refl

  pub offer_forbids : forbids rest ≡ true → offer_of t ≡ []
  unfolding offer_of
  offer_forbids h = rw (ap forbids (sym l.back) ∙ h)

  pub offer_valueless : spelled_value bytes ≡ None → offer_of t ≡ []
  offer_valueless h = offer_none t (ap spelled_value (sym l.front) ∙ h)

  module _ {v : Value} (h : spelled_value bytes ≡ Some v) where
    pub offer_some : forbids rest ≡ false → (length rest ≡ 0 → ⊥) → bytes ≡ offer_of t
    unfolding offer_of
    offer_some p q = l.front ∙ sym (rw (ap forbids (sym l.back) ∙ p, ne_eqb (length (leading t)) (length t) (λ e. q (omega (arith, l.all))), ap spelled_value (sym l.front) ∙ h))

    pub offered : Offered bytes
    offered = record {
      some = go bytes h;
      digits = ap leading l.front ∙ leading_twice t ∙ sym l.front;
      valued = rw h;
    }
      where
        go : (b : List ℕ) → spelled_value b ≡ Some v → length b ≡ 0 → ⊥
        go [] e z = let n : None ≡ Some v = sym no_value ∙ e in cc
        go (x ∷ b) e z = omega arith

-- a bare token begins with a letter
pub bare_offers : (t : List ℕ) → is_bare t ≡ true → offer_of t ≡ []
unfolding is_bare
bare_offers [] b = absurd (false≢true b)
bare_offers (x ∷ xs) b =
    let l : is_letter x ≡ true = (both _ _ b).0 in
    offer_nothing (x ∷ xs) (letter_no_digit x l)
