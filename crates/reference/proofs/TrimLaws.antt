-- Trimming: the white characters at the front and at the end, one character further, and the span of what is left.
use mathlib.Core.Path.{◌≡◌, refl, sym, ap, ◌∙◌, subst}
use mathlib.Core.Bool.{Bool, true, false, cond}
use mathlib.Core.List.{List, [], ◌∷◌, ◌++◌, append-nil}
use Prim.Native.Nat.{ℕ, min, ◌+◌, ◌≤◌, ◌<◌}
use native.Mathlib.Omega.{arith}
use lib.Dec.{eqb}
use lib.ListN.{length, take, drop, length-append, length-take, length-drop}
use lib.Seq.{length-take-le, take-append-add, take_at, drop-drop}
use borrow.Author.Tests.{ne_eqb}
use Rattle.utf8.specs.Utf8.{code_point}
use Rattle.reference.specs.Trim.{white, width, characters, text, from_first, before, up_to_last, trimmed, leading, leading_white, trimmed_end}
use Rattle.reference.proofs.CharacterLaws.{width_pos, width_inside, characters_none, characters_more, by_characters, text_characters, point_front}

-- ---- the white characters at the front
pub leading_none : (s : List ℕ) → length s ≤ 0 → leading_white s ≡ 0
unfolding leading_white leading
leading_none s h = ap leading (characters_none s h)

module _ (s : List ℕ) (some : 0 < length s) where
  leading_by : leading_white s ≡ cond (white (code_point s)) (width s + leading_white (drop (width s) s)) 0
  unfolding leading_white leading
  leading_by =
      let l : length (take (width s) s) ≡ width s = length-take-le (width s) s (width_inside s some) in
      ap leading (characters_more s some) ∙ rw (point_front s, l)

  pub leading_more : white (code_point s) ≡ true → leading_white s ≡ width s + leading_white (drop (width s) s)
  leading_more w = leading_by ∙ rw w

  pub leading_stop : white (code_point s) ≡ false → leading_white s ≡ 0
  leading_stop w = leading_by ∙ rw w

-- ---- the white characters at the end
pub end_none : (s : List ℕ) → length s ≤ 0 → trimmed_end s ≡ 0
unfolding trimmed_end up_to_last text
end_none s h = ap (λ (cs : List (List ℕ)). length (text (up_to_last cs))) (characters_none s h)

-- no character is empty
abbrev Full : List (List ℕ) → Type 0
Full [] = Unit
Full (c ∷ cs) = (0 < length c) × Full cs

full_characters : (s : List ℕ) → Full (characters s)
full_characters = by_characters (λ s. Full (characters s)) empty more
  where
    empty : (s : List ℕ) → length s ≤ 0 → Full (characters s)
    empty s h = subst Full (sym (characters_none s h)) tt

    more : (s : List ℕ) → 0 < length s → Full (characters (drop (width s) s)) → Full (characters s)
    more s h f =
        let l : length (take (width s) s) ≡ width s = length-take-le (width s) s (width_inside s h) in
        subst Full (sym (characters_more s h)) (omega (arith, width_pos s), f)

full_before : (c : List ℕ) (cs : List (List ℕ)) → 0 < length c → Full cs → Full (before c cs)
unfolding before
full_before c [] h f = go (white (code_point c))
  where
    go : (t : Bool) → Full (cond t [] (c ∷ []))
    go true = tt
    go false = (h, tt)
full_before c (d ∷ ds) h f = (h, f)

full_last : (cs : List (List ℕ)) → Full cs → Full (up_to_last cs)
unfolding up_to_last
full_last [] f = tt
full_last (c ∷ cs) f = full_before c (up_to_last cs) f.0 (full_last cs f.1)

end_before : (c : List ℕ) (cs : List (List ℕ)) → Full cs
    → length (text (before c cs)) ≡ cond (eqb (length (text cs)) 0) (cond (white (code_point c)) 0 (length c)) (length c + length (text cs))
unfolding before text
end_before c [] f = go (white (code_point c))
  where
    go : (t : Bool) → length (text (cond t [] (c ∷ []))) ≡ cond t 0 (length c)
    go true = refl
    go false = ap length (append-nil c)
end_before c (d ∷ ds) f =
    let l : length (d ++ text ds) ≡ length d + length (text ds) = length-append d (text ds) in
    let some : length (d ++ text ds) ≡ 0 → ⊥ = λ z. omega (arith, f.0) in
    rw (ne_eqb (length (d ++ text ds)) 0 some) (length-append c (d ++ text ds))

module _ (s : List ℕ) (some : 0 < length s) where
  end_by : trimmed_end s ≡ cond (eqb (trimmed_end (drop (width s) s)) 0) (cond (white (code_point s)) 0 (width s)) (width s + trimmed_end (drop (width s) s))
  unfolding trimmed_end up_to_last
  end_by =
      let l : length (take (width s) s) ≡ width s = length-take-le (width s) s (width_inside s some) in
      let cs : List (List ℕ) = characters (drop (width s) s) in
      ap (λ (x : List (List ℕ)). length (text (up_to_last x))) (characters_more s some)
      ∙ end_before (take (width s) s) (up_to_last cs) (full_last cs (full_characters (drop (width s) s)))
      ∙ rw (point_front s, l)

  -- nothing stays behind the character
  pub end_white : trimmed_end (drop (width s) s) ≡ 0 → white (code_point s) ≡ true → trimmed_end s ≡ 0
  end_white z w = end_by ∙ rw (z, w)

  pub end_here : trimmed_end (drop (width s) s) ≡ 0 → white (code_point s) ≡ false → trimmed_end s ≡ width s
  end_here z w = end_by ∙ rw (z, w)

  pub end_more : (trimmed_end (drop (width s) s) ≡ 0 → ⊥) → trimmed_end s ≡ width s + trimmed_end (drop (width s) s)
  end_more n = end_by ∙ rw (ne_eqb (trimmed_end (drop (width s) s)) 0 n)

-- ---- where the trimmed text stands
leading_first : (s : List ℕ) → characters (drop (leading_white s) s) ≡ from_first (characters s)
unfolding from_first
leading_first = by_characters (λ s. characters (drop (leading_white s) s) ≡ from_first (characters s)) empty more
  where
    empty : (s : List ℕ) → length s ≤ 0 → characters (drop (leading_white s) s) ≡ from_first (characters s)
    empty s h = rw (leading_none s h, characters_none s h)

    more : (s : List ℕ) → 0 < length s → characters (drop (leading_white (drop (width s) s)) (drop (width s) s)) ≡ from_first (characters (drop (width s) s))
        → characters (drop (leading_white s) s) ≡ from_first (characters s)
    more s h ih = go (white (code_point s)) refl
      where
        step : (t : Bool) → white (code_point s) ≡ t
            → from_first (characters s) ≡ cond t (from_first (characters (drop (width s) s))) (take (width s) s ∷ characters (drop (width s) s))
        step t w = ap from_first (characters_more s h) ∙ rw (point_front s, w)

        go : (t : Bool) → white (code_point s) ≡ t → characters (drop (leading_white s) s) ≡ from_first (characters s)
        go true w =
            rw (leading_more s h w, ← drop-drop (leading_white (drop (width s) s)) (width s) s) ih ∙ sym (step true w)
        go false w = rw (leading_stop s h w) (characters_more s h) ∙ sym (step false w)

-- what stays up to the last character that isn't white is the beginning of the text
last_take : (cs : List (List ℕ)) → take (length (text (up_to_last cs))) (text cs) ≡ text (up_to_last cs)
unfolding text up_to_last before
last_take [] = refl
last_take (c ∷ cs) = go (up_to_last cs) (last_take cs)
  where
    go : (ds : List (List ℕ)) → take (length (text ds)) (text cs) ≡ text ds
        → take (length (text (before c ds))) (c ++ text cs) ≡ text (before c ds)
    go [] e = pick (white (code_point c))
      where
        pick : (t : Bool) → take (length (text (cond t [] (c ∷ [])))) (c ++ text cs) ≡ text (cond t [] (c ∷ []))
        pick true = refl
        pick false = rw (append-nil c) (take_at c (text cs) (length c) refl)
    go (d ∷ ds) e =
        rw (length-append c (d ++ text ds), take-append-add c (text cs) (length (d ++ text ds))) (ap (λ (l : List ℕ). c ++ l) e)

-- the part that trimming at the end leaves
end_take : (s : List ℕ) → take (trimmed_end s) s ≡ text (up_to_last (characters s))
unfolding trimmed_end
end_take s = ap (take (length (text (up_to_last (characters s))))) (sym (text_characters s)) ∙ last_take (characters s)

pub end_inside : (s : List ℕ) → trimmed_end s ≤ length s
unfolding trimmed_end
end_inside s =
    let l : length (take (trimmed_end s) s) ≡ min (trimmed_end s) (length s) = length-take (trimmed_end s) s in
    let e : length (take (trimmed_end s) s) ≡ trimmed_end s = ap length (end_take s) in
    omega arith

leading_text : (cs : List (List ℕ)) → leading cs ≤ length (text cs)
unfolding leading text
leading_text [] = omega arith
leading_text (c ∷ cs) = go (white (code_point c)) (leading_text cs)
  where
    go : (t : Bool) → leading cs ≤ length (text cs) → cond t (length c + leading cs) 0 ≤ length (c ++ text cs)
    go true h = omega (arith, length-append c (text cs))
    go false h = omega arith

pub leading_inside : (s : List ℕ) → leading_white s ≤ length s
unfolding leading_white
leading_inside s = let l : length (text (characters s)) ≡ length s = ap length (text_characters s) in omega (arith, leading_text (characters s))

-- the trimmed text, from its place in the text
pub trimmed_take : (s : List ℕ) → take (trimmed_end (drop (leading_white s) s)) (drop (leading_white s) s) ≡ trimmed s
unfolding trimmed
trimmed_take s = end_take (drop (leading_white s) s) ∙ ap (λ (cs : List (List ℕ)). text (up_to_last cs)) (leading_first s)

pub trimmed_length : (s : List ℕ) → trimmed_end (drop (leading_white s) s) ≡ length (trimmed s)
unfolding trimmed trimmed_end
trimmed_length s = ap (λ (cs : List (List ℕ)). length (text (up_to_last cs))) (leading_first s)

pub trimmed_inside : (s : List ℕ) → leading_white s + length (trimmed s) ≤ length s
trimmed_inside s =
    omega (arith, trimmed_length s, end_inside (drop (leading_white s) s), length-drop (leading_white s) s, leading_inside s)
