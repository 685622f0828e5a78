-- What `ok_or` and the `?` behind it say, and a text behind the prefix that was taken off.
use mathlib.Core.Path.{◌≡◌, refl, sym, ap, ◌∙◌}
use Prim.Native.Nat.{ℕ, ◌<◌}
use mathlib.Core.List.{List, [], ◌∷◌}
use mathlib.Core.Bool.{Bool}
use lib.Dec.{eqb}
use lib.ListN.{length, take}
use lib.Pointwise.{pointwise}
use Rattle.std.proofs.Common.{Some, None, Option, Ok, Err, Result}
use Rattle.std.specs.List.{position}
use Rattle.std.specs.Option.{ok_or, unwrap_or}
use Rattle.std.specs.Result.{IsErrAnd}
use Rattle.std.proofs.lemmas.List.Quantifiers.{position-Some}
use Rattle.slices.specs.Compare.{begins_with}
use Rattle.slices.specs.Split.{index_of}
use Rattle.slices.proofs.CompareLaws.{starts_begins}
use Rattle.slices.proofs.SearchLaws.{position_index}

-- the exit: there was no value, and the error is returned
pub left : {A T E : Type 0} (o : Option A) {q : Result A E} {e d : E} {r : Result T E} → q ≡ ok_or o e → q ≡ Err d → IsErrAnd r (λ y. y ≡ d) → (o ≡ None) × (r ≡ Err e)
left None {r = Ok x} p q i = absurd i
left None {r = Err y} p q i = (refl, cc)
left (Some x) p q i = cc

-- the value that goes on
pub kept : {A E : Type 0} (o : Option A) (e : E) {q : Result A E} {x : A} → q ≡ ok_or o e → q ≡ Ok x → o ≡ Some x
kept None e p q = cc
kept (Some y) e p q = cc

-- what `position` finds is the first place of a byte, and where it finds none there is none
pub found : (b : ℕ) (s : List ℕ) {r : Option ℕ} {at : ℕ} → r ≡ position (λ x. eqb x b) s → r ≡ Some at → (at ≡ index_of b s) × (at < length s)
found b s {r} {at} p e = (sym (ap (λ (o : Option ℕ). unwrap_or o (length s)) e) ∙ position_index b s r p, (position-Some (λ x. eqb x b) s at 0 (sym p ∙ e)).0)

pub unfound : (b : ℕ) (s : List ℕ) {r : Option ℕ} → r ≡ position (λ x. eqb x b) s → r ≡ None → length s ≡ index_of b s
unfound b s {r} p e = sym (ap (λ (o : Option ℕ). unwrap_or o (length s)) e) ∙ position_index b s r p

-- `strip_prefix` and `starts_with` test what `begins_with` does
pub strips : (p s : List ℕ) {b : Bool} → pointwise eqb (take (length p) s) p ≡ b → begins_with p s ≡ b
unfolding begins_with
strips [] s e = e
strips (x ∷ p) [] e = e
strips (x ∷ p) (y ∷ s) e = rw (strips p s refl) e

pub starts : (p s : List ℕ) {b c : Bool} → b ≡ pointwise eqb p (take (length p) s) → b ≡ c → begins_with p s ≡ c
starts p s e f = sym (e ∙ starts_begins p s) ∙ f

-- what `?` leaves and keeps
pub ruleset exits = (left, kept)
