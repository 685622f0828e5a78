-- What a piece is, by its first byte.
use mathlib.Core.Path.{◌≡◌, refl, sym, ◌∙◌}
use Prim.Native.Nat.{ℕ}
use mathlib.Core.List.{List, [], ◌∷◌}
use mathlib.Core.Bool.{Bool, true, false}
use lib.ListN.{length, get_or}
use borrow.Author.Tests.{eq-eqb, ne_eqb}
use Rattle.pitch.specs.Pitch.{within}
use Rattle.duration.specs.Duration.{duration_of}
use Rattle.duration.specs.Ratio.{is_ratio, spelled_value}
use Rattle.duration.specs.declared.Value.{Value}
use Rattle.std.specs.Prelude.{Option}
use Rattle.items.specs.Items.{is_letter, length_item, item_of}
use Rattle.items.specs.declared.Item.TheVariants.{Digits, Ratio, Letters, Blank, Mark}

pub item_length : (s : List ℕ) {d : Bool} → (length s ≡ 0 → ⊥) → d ≡ within 48 57 (get_or s 0 0) → d ≡ true → length_item s ≡ item_of s
unfolding item_of
item_length [] h p q = absurd (h refl)
item_length (x ∷ xs) h p q = rw (sym p ∙ q)

pub length_digits : (s : List ℕ) {v : Option Value} → is_ratio s ≡ false → v ≡ duration_of s → Digits v ≡ length_item s
unfolding spelled_value
length_digits s e q = rw (e, q)

pub length_ratio : (s : List ℕ) {v : Option Value} → is_ratio s ≡ true → v ≡ spelled_value s → Ratio v ≡ length_item s
length_ratio s e q = rw (e, q)

pub item_letters : (s : List ℕ) {d l : Bool} → (length s ≡ 0 → ⊥) → d ≡ within 48 57 (get_or s 0 0) → d ≡ false
    → l ≡ is_letter (get_or s 0 0) → l ≡ true → Letters (get_or s 0 0) (length s) ≡ item_of s
unfolding item_of
item_letters [] h p p' q q' = absurd (h refl)
item_letters (x ∷ xs) h p p' q q' = rw (sym p ∙ p', sym q ∙ q')

pub item_blank : (s : List ℕ) {d l : Bool} → (length s ≡ 0 → ⊥) → d ≡ within 48 57 (get_or s 0 0) → d ≡ false
    → l ≡ is_letter (get_or s 0 0) → l ≡ false → get_or s 0 0 ≡ 32 → Blank ≡ item_of s
unfolding item_of
item_blank [] h p p' q q' e = absurd (h refl)
item_blank (x ∷ xs) h p p' q q' e = rw (sym p ∙ p', sym q ∙ q', eq-eqb _ _ e)

pub item_mark : (s : List ℕ) {d l : Bool} → (length s ≡ 0 → ⊥) → d ≡ within 48 57 (get_or s 0 0) → d ≡ false
    → l ≡ is_letter (get_or s 0 0) → l ≡ false → (get_or s 0 0 ≡ 32 → ⊥) → Mark (get_or s 0 0) ≡ item_of s
unfolding item_of
item_mark [] h p p' q q' e = absurd (h refl)
item_mark (x ∷ xs) h p p' q q' e = rw (sym p ∙ p', sym q ∙ q', ne_eqb _ _ e)
