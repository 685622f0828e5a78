-- A text that is one of the words, by its length and its bytes, and a text that is none of them.
use mathlib.Core.Path.{◌≡◌, refl, sym, ap, ◌∙◌, subst}
use Prim.Native.Nat.{ℕ, suc}
use mathlib.Core.List.{List, [], ◌∷◌}
use mathlib.Core.Bool.{Bool, true, false}
use lib.ListN.{length}
use Rattle.std.proofs.Common.{None, Err, Result}
use Rattle.std.proofs.lemmas.Slice.Eq.{HasBytesAt, text_from_reads}
use Rattle.slices.specs.Compare.{same_bytes}
use Rattle.slices.proofs.CompareLaws.{same_is}
use Rattle.interpretation.specs.Words.{named}
use Rattle.interpretation.specs.declared.Interpretation.{Interpretation}
use Rattle.interpretation.specs.declared.Unsupported.{Unsupported}
use Rattle.interpretation.specs.declared.Unsupported.TheVariants.{OtherClef, OtherSymbol}
use Rattle.interpretation.specs.Clef.{clefs, clef_of}
use Rattle.interpretation.specs.Meter.{symbols, symbol_of}

-- s differs from each of the words
abbrev pub Misses : {A : Type 0} → List ℕ → List (List ℕ × A) → Type 0
Misses s [] = Unit {0}
Misses s (w ∷ ws) = (length s ≡ length w.0 → HasBytesAt s 0 w.0 → ⊥) × Misses s ws

-- a text has its own bytes
behind : (p s : List ℕ) (x i : ℕ) → HasBytesAt s i p → HasBytesAt (x ∷ s) (suc i) p
behind [] s x i h = tt
behind (c ∷ p) s x i h = (h.0, behind p s x (suc i) h.1)

reads_all : (p : List ℕ) → HasBytesAt p 0 p
reads_all [] = tt
reads_all (c ∷ p) = (refl, behind p p c 0 (reads_all p))

miss : (p s : List ℕ) → (length s ≡ length p → HasBytesAt s 0 p → ⊥) → same_bytes p s ≡ false
miss p s h = go (same_bytes p s) refl
  where
    go : (b : Bool) → same_bytes p s ≡ b → b ≡ false
    go false e = refl
    go true e = let q = same_is p s e in absurd (h (ap length q) (subst (λ (t : List ℕ). HasBytesAt t 0 p) (sym q) (reads_all p)))

pub unnamed : {A : Type 0} (ws : List (List ℕ × A)) (s : List ℕ) → Misses s ws → named ws s ≡ None
unfolding named
unnamed [] s h = refl
unnamed (w ∷ ws) s h = rw (miss w.0 s h.0, unnamed ws s h.1)

pub other_clef : (s : List ℕ) → Misses s clefs → Err OtherClef ≡ clef_of s
unfolding clef_of
other_clef s h = rw (unnamed clefs s h)

pub other_symbol : (s : List ℕ) → Misses s symbols → Err OtherSymbol ≡ symbol_of s
unfolding symbol_of
other_symbol s h = rw (unnamed symbols s h)

pub is_clef : (p s : List ℕ) {r : Result Interpretation Unsupported} → length s ≡ length p → HasBytesAt s 0 p → r ≡ clef_of p → r ≡ clef_of s
is_clef p s l h e = e ∙ ap clef_of (sym (text_from_reads s p l h))

pub is_symbol : (p s : List ℕ) {r : Result Interpretation Unsupported} → length s ≡ length p → HasBytesAt s 0 p → r ≡ symbol_of p → r ≡ symbol_of s
is_symbol p s l h e = e ∙ ap symbol_of (sym (text_from_reads s p l h))
