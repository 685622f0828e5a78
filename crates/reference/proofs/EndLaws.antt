-- The end of a text: an ASCII byte behind it is a character of its own.
use mathlib.Core.Path.{◌≡◌, refl, sym, ap, ◌∙◌}
use mathlib.Core.Bool.{Bool, true, false, cond, ◌&&◌}
use mathlib.Core.List.{List, [], ◌∷◌, ◌++◌}
use Prim.Native.Nat.{ℕ, ◌+◌, ◌-◌, ◌≤◌, ◌<◌}
use native.Mathlib.Nat.{not-suc-le-zero}
use native.Mathlib.Omega.{arith}
use lib.Dec.{T, leb, eqb, leb→le}
use lib.ListN.{length, take, drop, get_or, length-append}
use lib.Seq.{take-length, take-append-le, drop-append-le, length-take-le}
use borrow.Author.Tests.{lt-leb}
use Rattle.slices.specs.Finite.{both_left, both_right}
use Rattle.utf8.specs.Utf8.{Range, table, begins, first_of, char_length, code_point}
use Rattle.utf8.proofs.LengthLaws.{char_plain}
use Rattle.utf8.proofs.PointLaws.{point_1}
use Rattle.reference.specs.Trim.{white, width, characters, text, before, up_to_last, trimmed_end}
use Rattle.reference.proofs.WhiteLaws.{white_ink}
use Rattle.reference.proofs.CharacterLaws.{width_some, width_inside, characters_none, characters_more, by_characters, text_characters}
use Rattle.reference.proofs.TrimLaws.{end_none}
use Rattle.slices.proofs.PieceLaws.{last_at}

-- ---- no byte of a character behind its first is below 128
abbrev high : List Range → Bool
high [] = true
high (r ∷ rs) = leb 128 r.0 && high rs

abbrev high_rows : List (List Range) → Bool
high_rows [] = true
high_rows ([] ∷ rows) = high_rows rows
high_rows ((r ∷ rs) ∷ rows) = high rs && high_rows rows

module _ (b : ℕ) (h : b < 128) where
  begins_last : (rs : List Range) (x : List ℕ) → T (high rs) → begins rs (x ++ (b ∷ [])) ≡ begins rs x
  unfolding begins
  begins_last [] x t = refl
  begins_last (r ∷ rs) [] t = rw (lt-leb r.0 b (omega (arith, leb→le 128 r.0 (both_left (leb 128 r.0) (high rs) t))))
  begins_last (r ∷ rs) (y ∷ x) t = rw (begins_last rs x (both_right (leb 128 r.0) (high rs) t))

  first_last : (rows : List (List Range)) (y : ℕ) (x : List ℕ) → T (high_rows rows) → first_of rows (y ∷ (x ++ (b ∷ []))) ≡ first_of rows (y ∷ x)
  unfolding first_of begins
  first_last [] y x t = refl
  first_last ([] ∷ rows) y x t = refl
  first_last ((r ∷ rs) ∷ rows) y x t = rw (begins_last rs x (both_left (high rs) (high_rows rows) t), first_last rows y x (both_right (high rs) (high_rows rows) t))

  char_last : (x : List ℕ) → 0 < length x → char_length (x ++ (b ∷ [])) ≡ char_length x
  unfolding char_length table
  char_last [] some = absurd (not-suc-le-zero some)
  char_last (y ∷ x) some = first_last table y x tt

  width_last : (x : List ℕ) → 0 < length x → width (x ++ (b ∷ [])) ≡ width x
  unfolding width
  width_last x some = ap (λ (n : ℕ). cond (eqb n 0) 1 n) (char_last x some)

  characters_last : (x : List ℕ) → characters (x ++ (b ∷ [])) ≡ characters x ++ ((b ∷ []) ∷ [])
  characters_last = by_characters (λ x. characters (x ++ (b ∷ [])) ≡ characters x ++ ((b ∷ []) ∷ [])) empty more
    where
      one : characters (b ∷ []) ≡ (b ∷ []) ∷ []
      one =
          let w : width (b ∷ []) ≡ 1 = width_some (b ∷ []) 1 (char_plain b [] h) (omega arith) in
          characters_more (b ∷ []) (omega arith) ∙ rw (w, characters_none [] (omega arith))

      empty : (x : List ℕ) → length x ≤ 0 → characters (x ++ (b ∷ [])) ≡ characters x ++ ((b ∷ []) ∷ [])
      empty [] z = one ∙ sym (ap (λ (cs : List (List ℕ)). cs ++ ((b ∷ []) ∷ [])) (characters_none [] z))
      empty (y ∷ x) z = absurd (not-suc-le-zero z)

      more : (x : List ℕ) → 0 < length x → characters (drop (width x) x ++ (b ∷ [])) ≡ characters (drop (width x) x) ++ ((b ∷ []) ∷ [])
          → characters (x ++ (b ∷ [])) ≡ characters x ++ ((b ∷ []) ∷ [])
      more x some ih =
          let w : width (x ++ (b ∷ [])) ≡ width x = width_last x some in
          let i : width x ≤ length x = width_inside x some in
          characters_more (x ++ (b ∷ [])) (omega (arith, length-append x (b ∷ [])))
          ∙ rw (w, take-append-le (width x) x (b ∷ []) i, drop-append-le (width x) x (b ∷ []) i, ih, characters_more x some)

-- ---- a last character goes where it is white, and stays with all before it where it isn't
last_white : (cs : List (List ℕ)) (c : List ℕ) → white (code_point c) ≡ true → up_to_last (cs ++ (c ∷ [])) ≡ up_to_last cs
unfolding up_to_last before
last_white [] c w = rw w
last_white (d ∷ cs) c w = ap (before d) (last_white cs c w)

before_more : (d c : List ℕ) (cs : List (List ℕ)) → before d (cs ++ (c ∷ [])) ≡ d ∷ (cs ++ (c ∷ []))
unfolding before
before_more d c [] = refl
before_more d c (e ∷ cs) = refl

last_other : (cs : List (List ℕ)) (c : List ℕ) → white (code_point c) ≡ false → up_to_last (cs ++ (c ∷ [])) ≡ cs ++ (c ∷ [])
unfolding up_to_last before
last_other [] c w = rw w
last_other (d ∷ cs) c w = ap (before d) (last_other cs c w) ∙ before_more d c cs

module _ (b : ℕ) (h : b < 128) (x : List ℕ) where
  here : (t : Bool) → white b ≡ t → white (code_point (b ∷ [])) ≡ t
  here t w = ap white (point_1 (b ∷ []) (char_plain b [] h)) ∙ w

  end_space : white b ≡ true → trimmed_end (x ++ (b ∷ [])) ≡ trimmed_end x
  unfolding trimmed_end
  end_space w =
      ap (λ (cs : List (List ℕ)). length (text (up_to_last cs))) (characters_last b h x)
      ∙ ap (λ (cs : List (List ℕ)). length (text cs)) (last_white (characters x) (b ∷ []) (here true w))

  end_ink : white b ≡ false → trimmed_end (x ++ (b ∷ [])) ≡ length (x ++ (b ∷ []))
  unfolding trimmed_end
  end_ink w =
      ap (λ (cs : List (List ℕ)). length (text (up_to_last cs))) (characters_last b h x)
      ∙ ap (λ (cs : List (List ℕ)). length (text cs)) (last_other (characters x) (b ∷ []) (here false w) ∙ sym (characters_last b h x))
      ∙ ap length (text_characters (x ++ (b ∷ [])))

-- ---- the loop of `trimmed_end`: what stands from n on is white
pub record Ending (s : List ℕ) (n : ℕ) : Type 0 where
  pub high : n ≤ length s
  pub same : trimmed_end s ≡ trimmed_end (take n s)

pub ending_first : {s : List ℕ} → Ending s (length s)
ending_first {s} = record { high = omega arith; same = ap trimmed_end (sym (take-length s)) }

module _ {s : List ℕ} {n : ℕ} (inv : Ending s n) where
  pub ending_turn : 0 < n → white (get_or s (n - 1) 0) ≡ true → get_or s (n - 1) 0 < 128 → Ending s (n - 1)
  ending_turn h w low = record {
    high = omega (arith, inv.high);
    same = inv.same ∙ ap trimmed_end (last_at s n h inv.high) ∙ end_space (get_or s (n - 1) 0) low (take (n - 1) s) w;
  }

  pub ending_done : 0 < n → 32 < get_or s (n - 1) 0 → get_or s (n - 1) 0 < 128 → (n ≡ trimmed_end s) × (n ≤ length s)
  ending_done h low up =
      let e : trimmed_end (take n s) ≡ length (take n s) =
      ap trimmed_end (last_at s n h inv.high) ∙ end_ink (get_or s (n - 1) 0) up (take (n - 1) s) (white_ink (get_or s (n - 1) 0) low up) ∙ ap length (sym (last_at s n h inv.high)) in
      (sym (inv.same ∙ e ∙ length-take-le n s inv.high), inv.high)

  pub ending_rest : {r : ℕ} → (r ≡ trimmed_end (take n s)) × (r ≤ length (take n s)) → (r ≡ trimmed_end s) × (r ≤ length s)
  ending_rest q = (q.0 ∙ sym inv.same, omega (arith, q.1, inv.high, length-take-le n s inv.high))

  pub ending_past : n ≤ 0 → (0 ≡ trimmed_end s) × (0 ≤ length s)
  ending_past h = (sym (inv.same ∙ end_none (take n s) (omega (arith, length-take-le n s inv.high))), omega arith)

-- the same where the index is one before n
module _ {s : List ℕ} {n : ℕ} (inv : Ending s n) (h : 0 < n) where
  pub ending_here : (32 < get_or s (n - 1) 0) × (get_or s (n - 1) 0 < 128) → (n - 1 + 1 ≡ trimmed_end s) × (n - 1 + 1 ≤ length s)
  ending_here e = let z : n - 1 + 1 ≡ n = omega (arith, h) in rw z (ending_done inv h e.0 e.1)

  pub ending_cut : {r : ℕ} → (r ≡ trimmed_end (take (n - 1 + 1) s)) × (r ≤ length (take (n - 1 + 1) s)) → (r ≡ trimmed_end s) × (r ≤ length s)
  ending_cut q = let z : n - 1 + 1 ≡ n = omega (arith, h) in ending_rest inv (rw z at q)

-- how the loop of `trimmed_end` goes
pub ruleset endings = (ending_first, ending_here, ending_cut, ending_turn, ending_past)
