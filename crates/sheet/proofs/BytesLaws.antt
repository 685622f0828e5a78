-- A number is read back from its bytes; and what holds of each element of two lists.
use mathlib.Core.Path.{◌≡◌}
use Prim.Native.Nat.{ℕ, ◌+◌, ◌*◌, ◌/◌, ◌%◌, ◌<◌}
use native.Mathlib.Nat.{div-div-eq-div-mul, div-add-mod', mod-eq_of_lt}
use native.Mathlib.Omega.{arith}
use mathlib.Core.List.{List, [], ◌∷◌, ◌++◌}
use mir.Syntax.{w8}
use mir.Val.{Fits}
use Rattle.sheet.specs.Fits.{U16, U32, All}

-- the lowest byte of a number
pub byte : (n : ℕ) → Fits w8 (n % 256)
byte n = record { fits = omega arith }

pub back2 : {n : ℕ} → U16 n → n % 256 + 256 * (n / 256 % 256) ≡ n
back2 {n} h = omega arith

pub back4 : {n : ℕ} → U32 n → n % 256 + 256 * (n / 256 % 256) + 65536 * (n / 65536 % 256) + 16777216 * (n / 16777216 % 256) ≡ n
back4 {n} h =
    let e : n / 256 / 256 ≡ n / 65536 = div-div-eq-div-mul n 256 256 in
    let g : n / 65536 / 256 ≡ n / 16777216 = div-div-eq-div-mul n 65536 256 in
    let l : n / 16777216 < 256 = omega arith in
    omega (arith, div-add-mod' n 256, div-add-mod' (n / 256) 256, div-add-mod' (n / 65536) 256, mod-eq_of_lt l)

pub all_append : {A : Type 0} (P : A → Type 0) (xs ys : List A) → All P xs → All P ys → All P (xs ++ ys)
all_append P [] ys f g = g
all_append P (x ∷ xs) ys f g = (f.0, all_append P xs ys f.1 g)
