-- A reference record's key and value stand inside it, and are the trimmed texts around the first `:`.
use mathlib.Core.Path.{◌≡◌, refl, ap, ◌∙◌}
use mathlib.Core.Bool.{Bool, true, false}
use mathlib.Core.List.{List, []}
use Prim.Native.Nat.{ℕ, min, ◌+◌, ◌-◌, ◌≤◌, ◌<◌}
use native.Mathlib.Omega.{arith}
use lib.Dec.{leb}
use borrow.Author.Tests.{leb-true, leb-false}
use lib.ListN.{length, take, drop, length-drop, drop_of_length-le}
use lib.Seq.{take_all}
use Rattle.slices.proofs.SplitLaws.{index_inside}
use Rattle.slices.specs.Split.{index_of}
use Rattle.reference.specs.Trim.{characters, first_characters, text, from_first, up_to_last, trimmed, trimmed_at}
use Rattle.reference.specs.Reference.{key_of, key_part, value_part, span_of, reference_of}
use Rattle.reference.specs.declared.Key.{Key}
use Rattle.reference.specs.declared.Span.{Span}
use Rattle.reference.specs.declared.Reference.{Reference}
use Rattle.reference.proofs.SpanLaws.{span_text, span_inside}

trimmed_none : trimmed [] ≡ []
unfolding trimmed characters first_characters from_first up_to_last text
trimmed_none = refl

at_none : (from : ℕ) → trimmed_at from [] ≡ 0
unfolding trimmed_at
at_none from = rw trimmed_none

-- ---- the spans of a record
module _ (s : List ℕ) where
  pub key_text : take (reference_of s).key_span.len (drop (reference_of s).key_span.at s) ≡ trimmed (key_part s)
  unfolding reference_of span_of
  key_text = span_text s 0 (index_of 58 s) (omega (arith, index_inside 58 s))

  pub key_inside : (reference_of s).key_span.at + (reference_of s).key_span.len ≤ length s
  unfolding reference_of span_of
  key_inside = span_inside s 0 (index_of 58 s) (omega (arith, index_inside 58 s))

  -- a piece up to the end of s, or one behind it, which is empty
  rest : (from : ℕ) → (take (length (trimmed (drop from s))) (drop (trimmed_at from (drop from s)) s) ≡ trimmed (drop from s))
      × (trimmed_at from (drop from s) + length (trimmed (drop from s)) ≤ length s)
  rest from = go (leb from (length s)) refl
    where
      go : (t : Bool) → leb from (length s) ≡ t
          → (take (length (trimmed (drop from s))) (drop (trimmed_at from (drop from s)) s) ≡ trimmed (drop from s))
          × (trimmed_at from (drop from s) + length (trimmed (drop from s)) ≤ length s)
      go true e =
          let h : from ≤ length s = leb-true from (length s) e in
          let whole : take (length s - from) (drop from s) ≡ drop from s = take_all (length s - from) (drop from s) (omega (arith, length-drop from s)) in
          (rw whole at (span_text s from (length s - from) (omega arith)), rw whole at (span_inside s from (length s - from) (omega arith)))
      go false e =
          let h : length s < from = leb-false from (length s) e in
          let none : drop from s ≡ [] = drop_of_length-le s {i = from} (omega arith) in
          rw (none, at_none from, trimmed_none) (refl, omega arith)

  pub value_text : take (reference_of s).value_span.len (drop (reference_of s).value_span.at s) ≡ trimmed (value_part s)
  unfolding reference_of span_of
  value_text = (rest (index_of 58 s + 1)).0

  pub value_inside : (reference_of s).value_span.at + (reference_of s).value_span.len ≤ length s
  unfolding reference_of span_of
  value_inside = (rest (index_of 58 s + 1)).1

-- ---- `reference_of`: the colon that `find` gives, the key's span k and the value's span v that `trim` gives
module _ (s : List ℕ) (colon : ℕ) (k : Span) (found : colon ≡ index_of 58 s) (cut : k ≡ span_of 0 (take (colon - 0) (drop 0 s))) where
  key_span : k ≡ span_of 0 (key_part s)
  key_span = let z : colon - 0 ≡ index_of 58 s = omega arith in cut ∙ ap (λ (n : ℕ). span_of 0 (take n s)) z

  pub key_fits : k.at + k.len ≤ length s
  unfolding span_of reference_of
  key_fits = rw key_span (key_inside s)

  module _ (key : Key) (named : key ≡ key_of (take (k.at + k.len - k.at) (drop k.at s))) where
    key_is : key ≡ key_of (trimmed (key_part s))
    unfolding span_of reference_of
    key_is =
        let n : k.at + k.len - k.at ≡ k.len = omega arith in
        named ∙ ap key_of (ap (λ (m : ℕ). take m (drop k.at s)) n ∙ rw key_span (key_text s))

    behind : (from : ℕ) (v : Span) → from ≡ min (colon + 1) (length s) → v ≡ span_of from (take (length s - from) (drop from s))
        → v ≡ span_of (index_of 58 s + 1) (value_part s)
    unfolding span_of
    behind from v at rest-cut =
        let whole : take (length s - from) (drop from s) ≡ drop from s = take_all (length s - from) (drop from s) (omega (arith, length-drop from s)) in
        rest-cut ∙ ap (span_of from) whole ∙ go (leb (colon + 1) (length s)) refl
      where
        go : (t : Bool) → leb (colon + 1) (length s) ≡ t → span_of from (drop from s) ≡ span_of (index_of 58 s + 1) (value_part s)
        go true e =
            let h : colon + 1 ≤ length s = leb-true (colon + 1) (length s) e in
            let z : from ≡ index_of 58 s + 1 = omega arith in
            ap (λ (x : ℕ). span_of x (drop x s)) z
        go false e =
            let h : length s < colon + 1 = leb-false (colon + 1) (length s) e in
            let none : drop from s ≡ [] = drop_of_length-le s {i = from} (omega arith) in
            let none' : value_part s ≡ [] = drop_of_length-le s {i = index_of 58 s + 1} (omega arith) in
            rw (none, none', at_none from, at_none (index_of 58 s + 1))

    pub reference_is : (from : ℕ) (v : Span) → from ≡ min (colon + 1) (length s) → v ≡ span_of from (take (length s - from) (drop from s))
        → ◌≡◌ {A = Reference} (record { key = key; key_span = k; value_span = v }) (reference_of s)
    unfolding reference_of
    reference_is from v at rest-cut = rw (key_span, behind from v at rest-cut, key_is)
