-- The tokens of a line as the library's `split` gives them, for chains over them.
use mathlib.Core.Path.{◌≡◌, refl, ap, ◌∙◌, subst}
use Prim.Native.Nat.{ℕ}
use mathlib.Core.List.{List, [], ◌∷◌}
use mathlib.Core.Bool.{Bool, true, false, cond}
use lib.Dec.{eqb}
use denote.Param.Members.{Mut}
use denote.Ref.{Bor}
use Rattle.std.specs.Fn.{CalledAt}
use Rattle.std.specs.List.{slice_split, onto_first}
use Rattle.std.specs.Slice.Iter.{split_steps, split_rest, split_done, split_callee}
use Rattle.std.proofs.lemmas.Iterator.{YieldsList}
use Rattle.std.proofs.lemmas.Iterator.Splits.{YieldsList-from_slice_split}
use Rattle.slices.specs.Split.{join, split}
use Rattle.lines.specs.Tokens.{tokens_of}

-- the library's pieces are this repository's
join_same : (t : Bool) (x : ℕ) (ps : List (List ℕ)) → cond t ([] ∷ ps) (onto_first x ps) ≡ join t x ps
unfolding join
join_same true x ps = refl
join_same false x [] = refl
join_same false x (p ∷ ps) = refl

pub split_same : (b : ℕ) (s : List ℕ) → slice_split (λ x. eqb x b) s ≡ split b s
unfolding split
split_same b [] = refl
split_same b (x ∷ s) = ap (λ (ps : List (List ℕ)). cond (eqb x b) ([] ∷ ps) (onto_first x ps)) (split_same b s) ∙ join_same (eqb x b) x (split b s)

-- `line.split(|b| *b == b'\t')` yields the tokens
pub YieldsList-from_tokens : {F : Type 0} {s : _} (g : Mut F (Bor ℕ × Unit {0}) Bool) {f : F} (line : List ℕ) → split_rest s ≡ line → split_done s ≡ false
    → split_callee s ≡ f → ((x : ℕ) (b : Bool) (q : F) → CalledAt g f x b q → (q ≡ f) × (b ≡ eqb x 9)) → YieldsList (split_steps g) (λ x. x.now) s (tokens_of line)
YieldsList-from_tokens {F} {s} g {f} line rest done callee calls =
    subst (λ (ts : List (List ℕ)). YieldsList (split_steps g) (λ x. x.now) s ts) (split_same 9 line)
    (YieldsList-from_slice_split g (λ x. eqb x 9) line rest done callee calls)
