-- Where the trimmed key and value of a record stand.
use mathlib.Core.Path.{◌≡◌, refl, sym, ap, ◌∙◌}
use mathlib.Core.Bool.{cond}
use mathlib.Core.List.{List, [], ◌∷◌}
use Prim.Native.Nat.{ℕ, zero, suc, ◌+◌, ◌-◌, ◌≤◌}
use native.Mathlib.Nat.{not-suc-le-zero}
use native.Mathlib.Omega.{arith}
use lib.Dec.{eqb, eqb-suc-zero}
use lib.ListN.{length, take, drop, length-drop}
use lib.Seq.{drop-drop, take_all, take-take, length-take-le}
use borrow.Author.Tests.{ne_eqb}
use Rattle.reference.specs.Trim.{trimmed, leading_white, trimmed_end, trimmed_at}
use Rattle.reference.specs.Reference.{span_of}
use Rattle.reference.specs.declared.Span.{Span}
use Rattle.reference.proofs.TrimLaws.{trimmed_take, trimmed_length, trimmed_inside}

-- ---- `trim`: the length n of what is left from the first character on that isn't white, at a
module _ (from : ℕ) (t : List ℕ) (a n : ℕ) (first : a ≡ leading_white t) (last : n ≡ trimmed_end (take (length t - a) (drop a t))) where
  long : n ≡ length (trimmed t)
  long =
      last
      ∙ ap trimmed_end (take_all (length t - a) (drop a t) (omega (arith, length-drop a t)))
      ∙ ap (λ (k : ℕ). trimmed_end (drop k t)) first
      ∙ trimmed_length t

  pub span_none : n ≡ 0 → ◌≡◌ {A = Span} (record { at = 0; len = 0 }) (span_of from t)
  unfolding span_of trimmed_at
  span_none z = rw (← long, z)

  pub span_some : (n ≡ 0 → ⊥) → ◌≡◌ {A = Span} (record { at = from + a; len = n }) (span_of from t)
  unfolding span_of trimmed_at
  span_some s = rw (← long, ne_eqb n 0 s, first)

-- ---- a piece of s, m bytes from `from` on: its trimmed text stands in s where its span says
take_piece : (n l m : ℕ) (x : List ℕ) → l + n ≤ m → take n (drop l (take m x)) ≡ take n (drop l x)
take_piece n zero m x h = take-take n m x (omega arith)
take_piece n (suc l) zero x h = absurd (not-suc-le-zero {n = 0} (omega arith))
take_piece n (suc l) (suc m) [] h = refl
take_piece n (suc l) (suc m) (b ∷ x) h = take_piece n l m x (omega arith)

module _ (s : List ℕ) (from m : ℕ) (fits : from + m ≤ length s) where
  piece_long : length (take m (drop from s)) ≡ m
  piece_long = length-take-le m (drop from s) (omega (arith, length-drop from s))

  by_span : (n : ℕ) → length (trimmed (take m (drop from s))) ≡ n
      → (take n (drop (cond (eqb n 0) 0 (from + leading_white (take m (drop from s)))) s) ≡ trimmed (take m (drop from s)))
      × (cond (eqb n 0) 0 (from + leading_white (take m (drop from s))) + n ≤ length s)
  by_span zero e = (sym (nil (trimmed (take m (drop from s))) e), omega arith)
    where
      nil : (l : List ℕ) → length l ≡ 0 → l ≡ []
      nil [] q = refl
      nil (b ∷ l) q = absurd (not-suc-le-zero {n = 0} (omega arith))
  by_span (suc n) e =
      let p : List ℕ = take m (drop from s) in
      let l : ℕ = leading_white p in
      let within : l + suc n ≤ m = omega (arith, trimmed_inside (take m (drop from s)), piece_long) in
      let q : trimmed_end (drop l p) ≡ suc n = trimmed_length p ∙ e in
      let here : take (suc n) (drop l p) ≡ trimmed p = ap (λ (k : ℕ). take k (drop l p)) (sym q) ∙ trimmed_take p in
      rw (eqb-suc-zero n)
      (ap (take (suc n)) (sym (drop-drop l from s)) ∙ sym (take_piece (suc n) l m (drop from s) within) ∙ here, omega arith)

  pub span_text : take (length (trimmed (take m (drop from s)))) (drop (trimmed_at from (take m (drop from s))) s) ≡ trimmed (take m (drop from s))
  unfolding trimmed_at
  span_text = (by_span (length (trimmed (take m (drop from s)))) refl).0

  pub span_inside : trimmed_at from (take m (drop from s)) + length (trimmed (take m (drop from s))) ≤ length s
  unfolding trimmed_at
  span_inside = (by_span (length (trimmed (take m (drop from s)))) refl).1
