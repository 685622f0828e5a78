-- The scan keeps what the first sub-token says.
use mathlib.Core.Path.{◌≡◌, refl, sym, ◌∙◌}
use Prim.Native.Nat.{ℕ, ◌+◌, ◌≤◌, min}
use native.Mathlib.Omega.{arith}
use mathlib.Core.List.{List, [], ◌∷◌}
use mathlib.Core.Bool.{Bool, true, false, cond, not, ◌||◌, or-false, or_assoc}
use lib.Dec.{eqb, ltb, lit≤}
use borrow.Author.Tests.{ltb-true, ltb-false}
use Rattle.notation.specs.Bytes.{contains}
use Rattle.items.specs.declared.Item.{Item}
use Rattle.items.specs.declared.Item.TheVariants.{Digits, Ratio, Letters, Blank, Mark}
use Rattle.duration.specs.declared.Value.{Value}
use Rattle.token.specs.Token.{given_by, up_to_blank, first_sub, is_silent, given_in, marks, count_of, dots_of, rest_of}
use Rattle.scan.specs.Steps.{or_given, dots_by, step_first}
use Rattle.scan.specs.declared.First.{First}
use Rattle.token.specs.declared.scan.Given.{Given}
use Rattle.token.specs.declared.scan.Given.TheVariants.{Nothing, NoValue, Length}
use Rattle.std.specs.Prelude.{Option, Some, None}
use Rattle.scan.proofs.FoldLaws.{fold}

abbrev pub state : Bool → Bool → Given → ℕ → Bool → First
state begun over given dots rest = record { begun = begun; over = over; given = given; dots = dots; rest = rest }

abbrev or_else : Given → Given → Given
or_else Nothing g = g
or_else NoValue g = NoValue
or_else (Length v) g = Length v

or_nothing : (g : Given) → g ≡ or_else g Nothing
or_nothing Nothing = refl
or_nothing NoValue = refl
or_nothing (Length v) = refl

or_digits : (g h : Given) (v : Option Value) → or_else (or_given g v) h ≡ or_else g (given_by v)
or_digits Nothing h None = refl
or_digits Nothing h (Some v) = refl
or_digits NoValue h v = refl
or_digits (Length w) h v = refl

dots_from : ℕ → List ℕ → ℕ
dots_from d [] = d
dots_from d (b ∷ bs) = dots_from (dots_by d b) bs

-- what the scan has at the end, where the items of `sub` are still of the first sub-token
record Ends (f : First) (g : Given) (d : ℕ) (r : Bool) (sub : List Item) : Type 0 where
  pub begun : f.begun ≡ true
  pub given : f.given ≡ or_else g (given_in sub)
  pub dots : f.dots ≡ dots_from d (marks sub)
  pub rest : f.rest ≡ (r || contains 114 (marks sub))

behind : (g : Given) (d : ℕ) (r : Bool) (is : List Item) → fold step_first (state true true g d r) is ≡ state true true g d r
behind g d r [] = refl
behind g d r (Digits v ∷ is) = behind g d r is
behind g d r (Ratio v ∷ is) = behind g d r is
behind g d r (Letters c n ∷ is) = behind g d r is
behind g d r (Blank ∷ is) = behind g d r is
behind g d r (Mark b ∷ is) = behind g d r is

none : (g : Given) (d : ℕ) (r : Bool) (f : First) → f.begun ≡ true → f.given ≡ g → f.dots ≡ d → f.rest ≡ r → Ends f g d r []
unfolding given_in marks contains dots_from
none g d r f a b c e =
    record { begun = a; given = b ∙ or_nothing g; dots = c; rest = e ∙ sym (or-false r) }

inside : (g : Given) (d : ℕ) (r : Bool) (is : List Item) → Ends (fold step_first (state true false g d r) is) g d r (up_to_blank is)
unfolding given_in marks contains dots_from up_to_blank
inside g d r [] = none g d r (state true false g d r) refl refl refl refl
inside g d r (Digits v ∷ is) =
    let e = inside (or_given g v) d r is in
    record { begun = e.begun; given = e.given ∙ or_digits g _ v; dots = e.dots; rest = e.rest }
inside g d r (Ratio v ∷ is) =
    let e = inside (or_given g v) d r is in
    record { begun = e.begun; given = e.given ∙ or_digits g _ v; dots = e.dots; rest = e.rest }
inside g d r (Letters c n ∷ is) =
    let e = inside g d r is in
    record { begun = e.begun; given = e.given; dots = e.dots; rest = e.rest }
inside g d r (Blank ∷ is) = rw (behind g d r is) (none g d r (state true true g d r) refl refl refl refl)
inside g d r (Mark b ∷ is) =
    let e = inside g (dots_by d b) (r || eqb b 114) is in
    record { begun = e.begun; given = e.given; dots = e.dots; rest = e.rest ∙ or_assoc r (eqb b 114) _ }

-- ---- before it
pub record Starts (f : First) (is : List Item) : Type 0 where
  pub silent : not f.begun ≡ is_silent is
  pub given : f.given ≡ given_in (first_sub is)
  pub dots : f.dots ≡ dots_of is
  pub rest : f.rest ≡ rest_of is

-- at most 3 dots are counted
by_dot : (t u : Bool) (d n : ℕ) → ltb d 3 ≡ u → d ≤ 3 → (cond t (cond u (d + 1) d) d ≤ 3) × (min 3 (cond t (cond u (d + 1) d) d + n) ≡ min 3 (d + (cond t 1 0 + n)))
by_dot true true d n e h = let l = ltb-true d 3 e in (omega arith, omega arith)
by_dot true false d n e h = let l = ltb-false d 3 e in (omega arith, omega arith)
by_dot false u d n e h = (h, omega arith)

count_dots : (d : ℕ) (bs : List ℕ) → d ≤ 3 → dots_from d bs ≡ min 3 (d + count_of 46 bs)
unfolding dots_from count_of dots_by
count_dots d [] h = omega arith
count_dots d (b ∷ bs) h =
    let s = by_dot (eqb b 46) (ltb d 3) d (count_of 46 bs) refl h in
    count_dots (dots_by d b) bs s.0 ∙ s.1

started : (f : First) (i : Item) (is sub : List Item) → is_silent (i ∷ is) ≡ false → first_sub (i ∷ is) ≡ sub → Ends f Nothing 0 false sub → Starts f (i ∷ is)
unfolding dots_of rest_of
started f i is sub s q e =
    record {
      silent = rw (e.begun, s);
      given = rw q e.given;
      dots = rw q (e.dots ∙ count_dots 0 (marks sub) (lit≤ tt) ∙ (omega arith));
      rest = rw q e.rest;
    }

pub before : (is : List Item) → Starts (fold step_first (state false false Nothing 0 false) is) is
unfolding is_silent first_sub up_to_blank given_in dots_of rest_of marks count_of contains
before [] = record { silent = refl; given = refl; dots = refl; rest = refl }
before (Digits v ∷ is) = started _ (Digits v) is _ refl refl (inside Nothing 0 false (Digits v ∷ is))
before (Ratio v ∷ is) = started _ (Ratio v) is _ refl refl (inside Nothing 0 false (Ratio v ∷ is))
before (Letters c n ∷ is) = started _ (Letters c n) is _ refl refl (inside Nothing 0 false (Letters c n ∷ is))
before (Blank ∷ is) =
    let e = before is in
    record { silent = e.silent; given = e.given; dots = e.dots; rest = e.rest }
before (Mark b ∷ is) = started _ (Mark b) is _ refl refl (inside Nothing 0 false (Mark b ∷ is))
