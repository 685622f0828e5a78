-- What holds of each element of a list holds in the lists that are made of it.
use mathlib.Core.Bool.{Bool, true, false, cond}
use mathlib.Core.List.{List, [], ◌∷◌, ◌++◌, map, reverse, reverse_aux}
use Prim.Native.Nat.{ℕ, zero, suc, ◌<◌, ◌^◌}
use lib.ListN.{get_or, take, set, replicate}
use Rattle.sheet.specs.Fits.{All, U8}

module _ {A : Type 0} (P : A → Type 0) where
  pub all_append : (xs ys : List A) → All P xs → All P ys → All P (xs ++ ys)
  all_append [] ys h k = k
  all_append (x ∷ xs) ys h k = (h.0, all_append xs ys h.1 k)

  pub all_get_d : (xs : List A) (i : ℕ) (d : A) → All P xs → P d → P (get_or xs i d)
  all_get_d [] i d h k = k
  all_get_d (x ∷ xs) zero d h k = h.0
  all_get_d (x ∷ xs) (suc i) d h k = all_get_d xs i d h.1 k

  pub all_set : (xs : List A) (i : ℕ) (a : A) → All P xs → P a → All P (set xs i a)
  all_set [] i a h k = h
  all_set (x ∷ xs) zero a h k = (k, h.1)
  all_set (x ∷ xs) (suc i) a h k = (h.0, all_set xs i a h.1 k)

  pub all_take : (n : ℕ) (xs : List A) → All P xs → All P (take n xs)
  all_take zero xs h = tt
  all_take (suc n) [] h = h
  all_take (suc n) (x ∷ xs) h = (h.0, all_take n xs h.1)

  pub all_replicate : (n : ℕ) (a : A) → P a → All P (replicate n a)
  all_replicate zero a h = tt
  all_replicate (suc n) a h = (h, all_replicate n a h)

  reverse_onto : (xs ys : List A) → All P xs → All P ys → All P (reverse_aux xs ys)
  reverse_onto [] ys h k = k
  reverse_onto (x ∷ xs) ys h k = reverse_onto xs (x ∷ ys) h.1 (h.0, k)

  pub all_reverse : (xs : List A) → All P xs → All P (reverse xs)
  all_reverse xs h = reverse_onto xs [] h tt

  pub all_map : {B : Type 0} (Q : B → Type 0) (f : A → B) → ((a : A) → P a → Q (f a)) → (xs : List A) → All P xs → All Q (map f xs)
  all_map Q f g [] h = tt
  all_map Q f g (x ∷ xs) h = (g x h.0, all_map Q f g xs h.1)

  pub either : (t : Bool) (x y : A) → P x → P y → P (cond t x y)
  either true x y h k = h
  either false x y h k = k

-- the bytes of a text, one by one
pub all_bytes : (s : List ℕ) → ((i : ℕ) → get_or s i 0 < 2 ^ 8) → All U8 s
all_bytes [] h = tt
all_bytes (x ∷ s) h = (h 0, all_bytes s (λ i. h (suc i)))
