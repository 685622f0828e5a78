-- The loops over the characters of a text: what each keeps, and the turn that keeps it.
use mathlib.Core.Path.{◌≡◌, refl, sym, ap, ◌∙◌}
use mathlib.Core.Bool.{Bool, true, false, cond}
use mathlib.Core.List.{List, ◌∷◌}
use Prim.Native.Nat.{ℕ, zero, suc, ◌+◌, ◌-◌, ◌≤◌, ◌<◌}
use native.Mathlib.Numerals.{add-one}
use native.Mathlib.Omega.{arith}
use lib.Dec.{eqb, eqb-suc-zero}
use lib.ListN.{length, take, drop, get_or, length-drop}
use borrow.Author.Tests.{ne_eqb}
use lib.Seq.{drop-cons, drop-drop}
use Rattle.utf8.specs.Utf8.{char_length, code_point}
use Rattle.utf8.proofs.LengthLaws.{char_plain}
use Rattle.utf8.proofs.PointLaws.{point_1}
use Rattle.reference.specs.Trim.{white, width, At, leading_white, trimmed_end}
use Rattle.reference.proofs.WhiteLaws.{white_ink}
use Rattle.reference.proofs.CharacterLaws.{width_pos, width_inside, width_some}
use Rattle.reference.proofs.TrimLaws.{leading_none, leading_more, leading_stop, end_none, end_white, end_here, end_more}
use Rattle.slices.proofs.PieceLaws.{rest}

-- ---- the loop of `leading_white`
pub record Leading (s : List ℕ) (i : ℕ) : Type 0 where
  pub high : i ≤ length s
  pub same : leading_white s ≡ i + leading_white (drop i s)

-- ---- the loop of `trimmed_end`: what stays from i on, or the end so far where nothing does
pub record End (s : List ℕ) (end i : ℕ) : Type 0 where
  pub low : end ≤ i
  pub high : i ≤ length s
  pub same : trimmed_end s ≡ cond (eqb (trimmed_end (drop i s)) 0) end (i + trimmed_end (drop i s))

pub leading_past : {s : List ℕ} {i : ℕ} → Leading s i → length s ≤ i → (i ≡ leading_white s) × (i ≤ length s)
leading_past {s} {i} inv h = (omega (arith, inv.same, leading_none (drop i s) (omega (arith, length-drop i s))), inv.high)

pub end_past : {s : List ℕ} {end i : ℕ} → End s end i → length s ≤ i → (end ≡ trimmed_end s) × (end ≤ length s)
end_past {s} {end} {i} inv h =
    (sym (inv.same ∙ rw (end_none (drop i s) (omega (arith, length-drop i s)))), omega (arith, inv.low, inv.high))

-- ---- `character`: the text from i on, as the code lends it
module _ (s : List ℕ) (i : ℕ) (h : i < length s) where
  fits : i + width (drop i s) ≤ length s
  fits = omega (arith, width_inside (drop i s) (omega (arith, length-drop i s)), length-drop i s)

  pub width_fits : {n : ℕ} → n ≡ width (take (length s - i) (drop i s)) → i + n ≤ length s
  width_fits wide = rw (wide, (rest s i)) fits

  pub character_at : {n p : ℕ} {b : Bool} → n ≡ width (take (length s - i) (drop i s)) → p ≡ code_point (take (length s - i) (drop i s)) → b ≡ white p
      → At s i (i + n) b
  character_at {n} wide point test =
      let n-is : n ≡ width (drop i s) = wide ∙ ap width (rest s i) in
      record {
        less = omega (arith, width_pos (drop i s));
        inside = width_fits wide;
        wide = omega arith;
        test = test ∙ ap white point ∙ ap (λ (l : List ℕ). white (code_point l)) (rest s i);
      }

-- ---- a turn of either loop
module _ {s : List ℕ} {i next : ℕ} {b : Bool} (c : At s i next b) where
  some : 0 < length (drop i s)
  some = omega (arith, c.less, c.inside, length-drop i s)

  on : drop (width (drop i s)) (drop i s) ≡ drop next s
  on = drop-drop (width (drop i s)) i s ∙ ap (λ (k : ℕ). drop k s) (sym c.wide)

  white_here : (t : Bool) → b ≡ t → white (code_point (drop i s)) ≡ t
  white_here t e = sym c.test ∙ e

  pub leading_turn : Leading s i → b ≡ true → Leading s next
  leading_turn inv e =
      let more : leading_white (drop i s) ≡ width (drop i s) + leading_white (drop next s) =
      rw on at (leading_more (drop i s) some (white_here true e)) in
      record { high = c.inside; same = omega (arith, inv.same, c.wide) }

  pub leading_done : Leading s i → b ≡ false → (i ≡ leading_white s) × (i ≤ length s)
  leading_done inv e = (omega (arith, inv.same, leading_stop (drop i s) some (white_here false e)), inv.high)

  -- where something stays behind the character, it stays too; where nothing does, the end is at x
  end_by : {end : ℕ} (x : ℕ) → End s end i → (trimmed_end (drop (width (drop i s)) (drop i s)) ≡ 0 → trimmed_end s ≡ x)
      → trimmed_end s ≡ cond (eqb (trimmed_end (drop next s)) 0) x (next + trimmed_end (drop next s))
  end_by {end} x inv h = go (trimmed_end (drop next s)) refl
    where
      go : (e : ℕ) → trimmed_end (drop next s) ≡ e → trimmed_end s ≡ cond (eqb e 0) x (next + e)
      go zero q = h (ap trimmed_end on ∙ q)
      go (suc e) q =
          let rest : trimmed_end (drop (width (drop i s)) (drop i s)) ≡ suc e = ap trimmed_end on ∙ q in
          let all : trimmed_end (drop i s) ≡ width (drop i s) + suc e = omega (arith, end_more (drop i s) some (λ z. omega arith)) in
          let not_none : trimmed_end (drop i s) ≡ 0 → ⊥ = λ z. omega arith in
          inv.same ∙ rw (ne_eqb (trimmed_end (drop i s)) 0 not_none, eqb-suc-zero e) (omega (arith, c.wide))

  pub end_turn_white : {end : ℕ} → End s end i → b ≡ true → End s end next
  end_turn_white {end} inv e = record { low = omega (arith, inv.low, c.less); high = c.inside; same = end_by end inv gone }
    where
      gone : trimmed_end (drop (width (drop i s)) (drop i s)) ≡ 0 → trimmed_end s ≡ end
      gone z = inv.same ∙ rw (end_white (drop i s) some z (white_here true e))

  pub end_turn : {end : ℕ} → End s end i → b ≡ false → End s next next
  end_turn {end} inv e = record { low = omega arith; high = c.inside; same = end_by next inv last }
    where
      last : trimmed_end (drop (width (drop i s)) (drop i s)) ≡ 0 → trimmed_end s ≡ next
      last z =
          let here : trimmed_end (drop i s) ≡ width (drop i s) = end_here (drop i s) some z (white_here false e) in
          let not_none : trimmed_end (drop i s) ≡ 0 → ⊥ = λ q. omega (arith, c.less, c.wide) in
          inv.same ∙ rw (ne_eqb (trimmed_end (drop i s)) 0 not_none) (omega (arith, c.wide))

-- ---- an ASCII character, found by its byte alone
module _ {s : List ℕ} {i : ℕ} (h : i < length s) (high : get_or s i 0 < 128) where
  ascii_at : (t : Bool) → white (get_or s i 0) ≡ t → At s i (i + 1) t
  ascii_at t w =
      let b : ℕ = get_or s i 0 in
      let cons : drop i s ≡ b ∷ drop (i + 1) s = rw (add-one, drop-cons s i 0 h) in
      let one : char_length (drop i s) ≡ 1 = ap char_length cons ∙ char_plain b (drop (i + 1) s) high in
      let wide : width (drop i s) ≡ 1 = width_some (drop i s) 1 one (omega arith) in
      let point : code_point (drop i s) ≡ b = point_1 (drop i s) one ∙ ap (λ (l : List ℕ). get_or l 0 0) cons in
      record { less = omega arith; inside = omega arith; wide = omega arith; test = sym (ap white point ∙ w) }

  pub ink_turn : {end : ℕ} → 32 < get_or s i 0 → End s end i → End s (i + 1) (i + 1)
  ink_turn low inv = end_turn (ascii_at false (white_ink (get_or s i 0) low high)) inv refl

  pub ink_stop : 32 < get_or s i 0 → Leading s i → (i ≡ leading_white s) × (i ≤ length s)
  ink_stop low inv = leading_done (ascii_at false (white_ink (get_or s i 0) low high)) inv refl

  pub space_turn : white (get_or s i 0) ≡ true → Leading s i → Leading s (i + 1)
  space_turn w inv = leading_turn (ascii_at true w) inv refl

-- how the loop of `leading_white` goes
pub ruleset leading = (ink_stop, space_turn, leading_done, leading_turn, leading_past)

-- how the loop of `last_end` goes
pub ruleset last_ends = (ink_turn, end_turn, end_turn_white, end_past)
