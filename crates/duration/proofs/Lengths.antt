-- Lengths: the factors' bounds, so that the products fit 32 bits; no denominator is 0.
use mathlib.Core.Path.{◌≡◌, refl, ◌∙◌}
use mathlib.Core.Bool.{Bool, true, false, cond}
use Prim.Native.Nat.{ℕ, zero, suc, ◌+◌, ◌*◌, ◌%◌, ◌^◌, ◌≤◌, ◌<◌, min}
use native.Mathlib.Nat.{mul-le-mul, mul-pos}
use native.Mathlib.Omega.{arith}
use lib.Dec.{leb, eqb, lit≤, lit<}
use lib.Pow.{pow_mono, pow_pos, shl_exact}
use borrow.Author.Tests.{leb-true, leb-false, eqb-false}
use Rattle.duration.specs.Length.{Fraction, ◌over◌, ◌times◌, value_length, dot_factor, tuplet_factor, note_length}

-- ---- the ways out of the functions
pub value_shift : (v m : ℕ) → m ≡ min v 9 → 4 over (1 * 2 ^ m % 4294967296) ≡ value_length v
unfolding value_length
value_shift v m e = go (leb v 9) refl
  where
    p : 1 * 2 ^ m % 4294967296 ≡ 2 ^ m
    p = shl_exact {a = 1} 1 m 32 (lit< tt) (omega arith) ∙ (omega arith)

    go : (t : Bool) → leb v 9 ≡ t → 4 over (1 * 2 ^ m % 4294967296) ≡ 4 over (2 ^ cond t v 9)
    go true q = let l : v ≤ 9 = leb-true v 9 q in let f : m ≡ v = omega arith in rw (p, f)
    go false q = let l : 9 < v = leb-false v 9 q in let f : m ≡ 9 = omega arith in rw (p, f)

pub dots_last : (d : ℕ) → (d ≡ 0 → ⊥) → (d ≡ 1 → ⊥) → (d ≡ 2 → ⊥) → 15 over 8 ≡ dot_factor d
unfolding dot_factor
dots_last zero a b c = absurd (a refl)
dots_last (suc zero) a b c = absurd (b refl)
dots_last (suc (suc zero)) a b c = absurd (c refl)
dots_last (suc (suc (suc d))) a b c = refl

-- ---- bounds
pub record Bounded (f : Fraction) (a b : ℕ) : Type 0 where
  pub top : f.numerator ≤ a
  pub some : 0 < f.denominator
  pub low : f.denominator ≤ b

times_bounded : {f g : Fraction} {a b c d : ℕ} → Bounded f a b → Bounded g c d → Bounded (f times g) (a * c) (b * d)
times_bounded x y =
    record { top = mul-le-mul x.top y.top; some = mul-pos x.some y.some; low = mul-le-mul x.low y.low }

value_by : (v : ℕ) (t : Bool) → leb v 9 ≡ t → cond t v 9 ≤ 9
value_by v true e = leb-true v 9 e
value_by v false e = omega arith

value_bounded : (v : ℕ) → Bounded (value_length v) 4 512
unfolding value_length
value_bounded v =
    record { top = omega arith; some = pow_pos _; low = pow_mono {j = 9} (value_by v (leb v 9) refl) }

dots_bounded : (d : ℕ) → Bounded (dot_factor d) 15 8
unfolding dot_factor
dots_bounded zero = record { top = lit≤ tt; some = lit< tt; low = lit≤ tt }
dots_bounded (suc zero) = record { top = lit≤ tt; some = lit< tt; low = lit≤ tt }
dots_bounded (suc (suc zero)) = record { top = lit≤ tt; some = lit< tt; low = lit≤ tt }
dots_bounded (suc (suc (suc d))) = record { top = lit≤ tt; some = lit< tt; low = lit≤ tt }

tuplet_bounded : (a n m : ℕ) → 1 ≤ m → a ≤ m → n ≤ m → Bounded (tuplet_factor a n) m m
unfolding tuplet_factor
tuplet_bounded a n m h ha hn = go (eqb a 0) refl
  where
    go : (t : Bool) → eqb a 0 ≡ t → Bounded (cond t (1 over 1) (n over a)) m m
    go true e = record { top = h; some = omega arith; low = h }
    go false e = record { top = hn; some = (let nz = eqb-false a 0 e in omega arith); low = ha }

-- the products of what the functions give
module _ {f g : Fraction} (v d : ℕ) (value : f ≡ value_length v) (dots : g ≡ dot_factor d) where
  pub two_fit : Bounded (f times g) 60 4096
  two_fit = rw (value, dots) (times_bounded (value_bounded v) (dots_bounded d))

  pub all_fit : {h : Fraction} (a n : ℕ) → h ≡ tuplet_factor a n → a < 256 → n < 256 → Bounded (f times g times h) 15300 1044480
  all_fit a n tuplet ha hn = times_bounded {c = 255} {d = 255} two_fit (rw tuplet (tuplet_bounded a n 255 (lit≤ tt) (omega arith) (omega arith)))

-- no denominator is 0
pub length_positive : (v d a n : ℕ) (grace : Bool) → 0 < (note_length v d a n grace).denominator
unfolding note_length
length_positive v d a n true = lit< tt
length_positive v d a n false =
    mul-pos (mul-pos (value_bounded v).some (dots_bounded d).some) (tuplet_bounded a n (1 + a + n) (omega arith) (omega arith) (omega arith)).some

-- "a grace lasts nothing"
pub grace_length : (v d a n : ℕ) → note_length v d a n true ≡ 0 over 1
unfolding note_length
grace_length v d a n = refl
