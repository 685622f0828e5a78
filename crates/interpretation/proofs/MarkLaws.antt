-- The marks that an interpretation begins with: each answer of the code, from the tests that led to it.
use mathlib.Core.Path.{◌≡◌, refl, sym, ap, ◌∙◌}
use Prim.Native.Nat.{ℕ, ◌<◌}
use native.Mathlib.Omega.{arith}
use mathlib.Core.List.{List, [], ◌∷◌}
use mathlib.Core.Bool.{Bool, true, false, ◌||◌, and-false}
use lib.Dec.{eqb}
use lib.ListN.{length, get_or, drop}
use borrow.Author.Tests.{eq-eqb, ne_eqb}
use Rattle.std.proofs.Common.{Ok, Err, Result}
use Rattle.slices.specs.Compare.{begins_with}
use Rattle.interpretation.specs.declared.Interpretation.{Interpretation}
use Rattle.interpretation.specs.declared.Interpretation.TheVariants.{Nothing, Name, ShortName}
use Rattle.interpretation.specs.declared.Unsupported.{Unsupported}
use Rattle.interpretation.specs.declared.Unsupported.TheVariants.{InsideBar}
use Rattle.interpretation.specs.Digits.{is_digit}
use Rattle.interpretation.specs.Clef.{clef_of}
use Rattle.interpretation.specs.Key.{key_of, mode_of}
use Rattle.interpretation.specs.Meter.{meter_of, symbol_of}
use Rattle.interpretation.specs.Tempo.{tempo_of}
use Rattle.interpretation.specs.Interpretation.{clef_mark, key_mark, symbol_mark, tempo_mark, name_mark, short_name_mark, meter_mark, is_attribute, other_of, meaning_of, interpretation_of}

-- `M` and a digit
pub mark_short : (s : List ℕ) → length s < 2 → false ≡ meter_mark s
unfolding meter_mark is_digit
mark_short [] h = refl
mark_short (x ∷ []) h = sym (and-false (eqb x 77))
mark_short (x ∷ y ∷ s) h = absurd (omega arith)

pub mark_not : (s : List ℕ) → (get_or s 0 0 ≡ 77 → ⊥) → false ≡ meter_mark s
unfolding meter_mark
mark_not s h = rw (ne_eqb _ _ h)

pub mark_digit : (s : List ℕ) {b : Bool} → get_or s 0 0 ≡ 77 → b ≡ is_digit (get_or s 1 0) → b ≡ meter_mark s
unfolding meter_mark
mark_digit s h e = e ∙ rw (eq-eqb _ _ h)

-- `a || b` where b is computed only if a doesn't hold
pub or_then : {a v : Bool} (b : Bool) → a ≡ true → v ≡ true → v ≡ (a || b)
or_then b h e = e ∙ rw h

pub or_else : {a v b : Bool} → a ≡ false → v ≡ b → v ≡ (a || b)
or_else h e = e ∙ rw h

pub attribute : (s : List ℕ) {v r : Bool} → v ≡ (begins_with clef_mark s || begins_with key_mark s || meter_mark s) → r ≡ (v || begins_with symbol_mark s) → r ≡ is_attribute s
unfolding is_attribute
attribute s e f = f ∙ rw e

-- the four marks of attributes, in order
module _ (s : List ℕ) where
  pub meaning_clef : {r : Result Interpretation Unsupported} {t : List ℕ} → begins_with clef_mark s ≡ true → t ≡ drop 4 s → r ≡ clef_of t → r ≡ meaning_of s
  unfolding meaning_of
  meaning_clef h d e = e ∙ rw (h, d)

  module _ (no_clef : begins_with clef_mark s ≡ false) where
    pub meaning_key : {r : Result Interpretation Unsupported} {t : List ℕ} → begins_with key_mark s ≡ true → t ≡ drop 2 s → r ≡ key_of t → r ≡ meaning_of s
    unfolding meaning_of
    meaning_key h d e = e ∙ rw (no_clef, h, d)

    module _ (no_key : begins_with key_mark s ≡ false) {m : Bool} (u : m ≡ meter_mark s) where
      pub meaning_meter : {r : Result Interpretation Unsupported} {t : List ℕ} → m ≡ true → t ≡ drop 1 s → r ≡ meter_of t → r ≡ meaning_of s
      unfolding meaning_of
      meaning_meter h d e = e ∙ rw (no_clef, no_key, sym u ∙ h, d)

      module _ (no_meter : m ≡ false) where
        pub meaning_symbol : {r : Result Interpretation Unsupported} {t : List ℕ} → begins_with symbol_mark s ≡ true → t ≡ drop 4 s → r ≡ symbol_of t → r ≡ meaning_of s
        unfolding meaning_of
        meaning_symbol h d e = e ∙ rw (no_clef, no_key, sym u ∙ no_meter, h, d)

        pub meaning_other : {r : Result Interpretation Unsupported} → begins_with symbol_mark s ≡ false → r ≡ other_of s → r ≡ meaning_of s
        unfolding meaning_of
        meaning_other h e = e ∙ rw (no_clef, no_key, sym u ∙ no_meter, h)

-- the marks of other texts, in order
module _ (s : List ℕ) where
  pub other_tempo : {r : Result Interpretation Unsupported} {t : List ℕ} → begins_with tempo_mark s ≡ true → t ≡ drop 2 s → r ≡ tempo_of t → r ≡ other_of s
  unfolding other_of
  other_tempo h d e = e ∙ rw (h, d)

  module _ (no_tempo : begins_with tempo_mark s ≡ false) where
    pub other_name : begins_with name_mark s ≡ true → Ok Name ≡ other_of s
    unfolding other_of
    other_name h = rw (no_tempo, h)

    module _ (no_name : begins_with name_mark s ≡ false) where
      pub other_short : begins_with short_name_mark s ≡ true → Ok ShortName ≡ other_of s
      unfolding other_of
      other_short h = rw (no_tempo, no_name, h)

      pub other_mode : {r : Result Interpretation Unsupported} → begins_with short_name_mark s ≡ false → r ≡ mode_of s → r ≡ other_of s
      unfolding other_of
      other_mode h e = e ∙ rw (no_tempo, no_name, h)

-- the whole token, the text behind its star, and whether its part has a note in the bar
module _ (token : List ℕ) (noted : Bool) {body : List ℕ} (e : body ≡ drop 1 token) where
  pub says_nothing : length body ≡ 0 → Ok Nothing ≡ interpretation_of token noted
  unfolding interpretation_of
  says_nothing z = rw (eq-eqb _ _ (sym (ap length e) ∙ z))

  module _ (some : length body ≡ 0 → ⊥) where
    behind : eqb (length (drop 1 token)) 0 ≡ false
    behind = ne_eqb _ _ (λ (z : length (drop 1 token) ≡ 0). some (ap length e ∙ z))

    pub says_first : {r : Result Interpretation Unsupported} → noted ≡ false → r ≡ meaning_of body → r ≡ interpretation_of token noted
    unfolding interpretation_of
    says_first n m = m ∙ rw (behind, n, e)

    module _ (n : noted ≡ true) {a : Bool} (p : a ≡ is_attribute body) where
      pub says_late : a ≡ true → Err InsideBar ≡ interpretation_of token noted
      unfolding interpretation_of
      says_late t = rw (behind, n, ← e, sym p ∙ t)

      pub says_after : {r : Result Interpretation Unsupported} → a ≡ false → r ≡ meaning_of body → r ≡ interpretation_of token noted
      unfolding interpretation_of
      says_after t m = m ∙ rw (behind, n, ← e, sym p ∙ t)

-- the ways out of `meter_mark`
pub ruleset marks = (mark_digit, mark_short, mark_not)

-- how the four tests of `is_attribute` join
pub ruleset attributes = (or_then, or_else, attribute)

-- the ways out of `meaning`
pub ruleset meanings = (meaning_clef, meaning_key, meaning_meter, meaning_symbol, meaning_other)

-- the ways out of `other`
pub ruleset others = (other_tempo, other_name, other_short, other_mode)
