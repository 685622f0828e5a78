-- What marks in front of items do to each aspect of a token.
use mathlib.Core.Path.{◌≡◌, refl, ap, ◌∙◌}
use Prim.Native.Nat.{ℕ, ◌+◌}
use native.Mathlib.Omega.{arith}
use mathlib.Core.List.{List, [], ◌∷◌, ◌++◌}
use mathlib.Core.Bool.{Bool, true, false, cond, not, ◌&&◌, ◌||◌}
use lib.Dec.{eqb, ltb}
use lib.ListN.{length}
use borrow.Author.Tests.{not-true}
use Rattle.slices.specs.Ascii.{ascii}
use Rattle.slices.proofs.TestLaws.{and_left, and_right}
use Rattle.notation.specs.Bytes.{contains}
use Rattle.pitch.specs.Pitch.{altered_by}
use Rattle.duration.specs.declared.Value.{Value}
use Rattle.items.specs.declared.Item.{Item}
use Rattle.items.specs.declared.Item.TheVariants.{Digits, Letters, Mark}
use Rattle.token.specs.declared.scan.Before.{Before}
use Rattle.token.specs.declared.scan.Before.TheVariants.{Nothing, Right, Further, Ratio}
use Rattle.token.specs.Token.{is_nothing, passed, bad_length, given_by, up_to_blank, first_sub, is_silent, given_in, marks, count_of, any_of, grace_by, grace_from, articulation, articulations_in, heard, passes, signifiers}
use Rattle.token.specs.declared.pitches.Tone.{Tone}
use Rattle.std.specs.Prelude.{Option, Some, None}
use Rattle.plain.specs.Usual.{unknown_bytes, mark_bytes, all_in, carried, Said, said_by}
use Rattle.plain.proofs.ByteLaws.{each, among, or_left, or_right, or_only, said_still}
use Rattle.plain.proofs.ItemLaws.{marked}

module _ (test : ℕ → Bool) (x : ℕ) (xs : List ℕ) (e : each test (x ∷ xs) ≡ true) where
  pub each_head : test x ≡ true
  unfolding each
  each_head = and_left (test x) (each test xs) e

  pub each_tail : each test xs ≡ true
  unfolding each
  each_tail = and_right (test x) (each test xs) e

abbrev pub differs : ℕ → ℕ → Bool
differs b x = not (eqb x b)

-- ---- lengths
passed_nothing : (b : Before) → is_nothing (passed b) ≡ is_nothing b
passed_nothing Nothing = refl
passed_nothing Right = refl
passed_nothing Further = refl
passed_nothing Ratio = refl

-- no bad length among items that no length stands before in their sub-token, or (false) that one does
abbrev pub Good : Bool → List Item → Type 0
Good none is = (begun : Bool) (b : Before) → is_nothing b ≡ none → bad_length false begun b is ≡ false

pub bad_marks : (none : Bool) (xs : List ℕ) (is : List Item) → each (differs 37) xs ≡ true → Good none is → Good none (marked xs is)
unfolding bad_length
bad_marks none [] is e h = h
bad_marks none (x ∷ xs) is e h = λ begun b q.
    rw (not-true (eqb x 37) (each_head (differs 37) x xs e)) (bad_marks none xs is (each_tail (differs 37) x xs e) h true (passed b) (passed_nothing b ∙ q))

pub bad_digits : (v : Option Value) (is : List Item) → Good false is → Good true (Digits v ∷ is)
unfolding bad_length
bad_digits v is h = λ begun b q. rw q (h true Right refl)

pub bad_letters : (c n : ℕ) (is : List Item) → Good false is → Good false (Letters c n ∷ is)
unfolding bad_length
bad_letters c n is h = λ begun b q. h true (passed b) (passed_nothing b ∙ q)

pub bad_none : Good false []
unfolding bad_length
bad_none = λ begun b q. refl

-- ---- the first sub-token
pub up_marks : (xs : List ℕ) (is : List Item) → up_to_blank (marked xs is) ≡ marked xs (up_to_blank is)
unfolding up_to_blank
up_marks [] is = refl
up_marks (x ∷ xs) is = ap (λ (r : List Item). Mark x ∷ r) (up_marks xs is)

pub up_only : (xs : List ℕ) → up_to_blank (marked xs []) ≡ marked xs []
unfolding up_to_blank
up_only xs = up_marks xs []

pub up_letters : (c n : ℕ) (is : List Item) → up_to_blank (Letters c n ∷ is) ≡ Letters c n ∷ up_to_blank is
unfolding up_to_blank
up_letters c n is = refl

pub first_marks : (xs : List ℕ) (v : Option Value) (is : List Item) → up_to_blank is ≡ is
    → first_sub (marked xs (Digits v ∷ is)) ≡ marked xs (Digits v ∷ is)
unfolding first_sub up_to_blank
first_marks [] v is e = ap (λ (r : List Item). Digits v ∷ r) e
first_marks (x ∷ xs) v is e =
    ap (λ (r : List Item). Mark x ∷ r) (up_marks xs (Digits v ∷ is) ∙ ap (λ (r : List Item). marked xs (Digits v ∷ r)) e)

pub silent_marks : (xs : List ℕ) (v : Option Value) (is : List Item) → is_silent (marked xs (Digits v ∷ is)) ≡ false
unfolding is_silent
silent_marks [] v is = refl
silent_marks (x ∷ xs) v is = refl

pub given_marks : (xs : List ℕ) (v : Option Value) (is : List Item) → given_in (marked xs (Digits v ∷ is)) ≡ given_by v
unfolding given_in
given_marks [] v is = refl
given_marks (x ∷ xs) v is = given_marks xs v is

-- ---- the marks
pub marks_marks : (xs : List ℕ) (is : List Item) → marks (marked xs is) ≡ xs ++ marks is
unfolding marks
marks_marks [] is = refl
marks_marks (x ∷ xs) is = ap (λ (r : List ℕ). x ∷ r) (marks_marks xs is)

pub marks_only : (xs : List ℕ) → marks (marked xs []) ≡ xs
unfolding marks
marks_only [] = refl
marks_only (x ∷ xs) = ap (λ (r : List ℕ). x ∷ r) (marks_only xs)

pub marks_digits : (v : Option Value) (is : List Item) → marks (Digits v ∷ is) ≡ marks is
unfolding marks
marks_digits v is = refl

pub marks_letters : (c n : ℕ) (is : List Item) → marks (Letters c n ∷ is) ≡ marks is
unfolding marks
marks_letters c n is = refl

pub count_none : (b : ℕ) (xs ys : List ℕ) → each (differs b) xs ≡ true → count_of b (xs ++ ys) ≡ count_of b ys
unfolding count_of
count_none b [] ys e = refl
count_none b (x ∷ xs) ys e =
    rw (not-true (eqb x b) (each_head (differs b) x xs e)) (omega (arith, count_none b xs ys (each_tail (differs b) x xs e)))

pub count_all : (b : ℕ) (xs ys : List ℕ) → each (λ x. eqb x b) xs ≡ true → count_of b (xs ++ ys) ≡ length xs + count_of b ys
unfolding count_of
count_all b [] ys e = omega arith
count_all b (x ∷ xs) ys e =
    rw (each_head (λ x. eqb x b) x xs e) (omega (arith, count_all b xs ys (each_tail (λ x. eqb x b) x xs e)))

pub contains_none : (b : ℕ) (xs ys : List ℕ) → each (differs b) xs ≡ true → contains b (xs ++ ys) ≡ contains b ys
unfolding contains
contains_none b [] ys e = refl
contains_none b (x ∷ xs) ys e =
    rw (not-true (eqb x b) (each_head (differs b) x xs e)) (contains_none b xs ys (each_tail (differs b) x xs e))

abbrev pub graceless : ℕ → Bool
graceless x = differs 113 x && differs 81 x

grace_still : (x : ℕ) → graceless x ≡ true → grace_by 0 x ≡ 0
unfolding grace_by
grace_still x h =
    rw (not-true (eqb x 113) (and_left (differs 113 x) (differs 81 x) h), not-true (eqb x 81) (and_right (differs 113 x) (differs 81 x) h))

pub grace_none : (xs ys : List ℕ) → each graceless xs ≡ true → grace_from 0 (xs ++ ys) ≡ grace_from 0 ys
unfolding grace_from
grace_none [] ys e = refl
grace_none (x ∷ xs) ys e =
    ap (λ (g : ℕ). grace_from g (xs ++ ys)) (grace_still x (each_head graceless x xs e)) ∙ grace_none xs ys (each_tail graceless x xs e)

-- ---- what the marks say
pub still_over : (s : Said) (xs : List ℕ) → each (λ b. not (contains b mark_bytes)) xs ≡ true → carried said_by s xs ≡ s
unfolding carried
still_over s [] e = refl
still_over s (x ∷ xs) e =
    ap (λ (t : Said). carried said_by t xs) (said_still s x (not-true (contains x mark_bytes) (each_head (λ b. not (contains b mark_bytes)) x xs e)))
    ∙ still_over s xs (each_tail (λ b. not (contains b mark_bytes)) x xs e)

pub record Says (fresh s : Said) (bs : List ℕ) : Type 0 where
  pub ties : s.ties ≡ (any_of (ascii "[_") bs || fresh.ties)
  pub tied : s.tied ≡ (any_of (ascii "]_") bs || fresh.tied)
  pub slurs : s.slurs ≡ (any_of (ascii "(") bs || fresh.slurs)
  pub slurred : s.slurred ≡ (any_of (ascii ")") bs || fresh.slurred)
  pub starts : s.starts ≡ (contains 76 bs || fresh.starts)
  pub ends : s.ends ≡ (contains 74 bs || fresh.ends)
  pub articulations : s.articulations ≡ length (articulations_in bs) + fresh.articulations
  pub unknown : s.unknown ≡ (any_of unknown_bytes bs || fresh.unknown)

turn : (a b c : Bool) → (b || (a || c)) ≡ (a || b || c)
turn true true c = refl
turn true false c = refl
turn false b c = refl

one_more : (t : Bool) (n a : ℕ) (l : List ℕ) → length l + cond t (n + 1) n ≡ length (cond t (a ∷ l) l) + n
one_more true n a l = omega arith
one_more false n a l = refl

pub says : (s : Said) (bs : List ℕ) → Says s (carried said_by s bs) bs
unfolding carried any_of contains articulations_in
says s [] =
    record { ties = refl; tied = refl; slurs = refl; slurred = refl; starts = refl; ends = refl; articulations = omega arith; unknown = refl }
says s (b ∷ bs) =
    let e = says (said_by s b) bs in
    record {
      ties = e.ties ∙ turn (contains b (ascii "[_")) (any_of (ascii "[_") bs) s.ties;
      tied = e.tied ∙ turn (contains b (ascii "]_")) (any_of (ascii "]_") bs) s.tied;
      slurs = e.slurs ∙ turn (contains b (ascii "(")) (any_of (ascii "(") bs) s.slurs;
      slurred = e.slurred ∙ turn (contains b (ascii ")")) (any_of (ascii ")") bs) s.slurred;
      starts = e.starts ∙ turn (eqb b 76) (contains 76 bs) s.starts;
      ends = e.ends ∙ turn (eqb b 74) (contains 74 bs) s.ends;
      articulations = e.articulations ∙ one_more (ltb (articulation b) 5) s.articulations (articulation b) (articulations_in bs);
      unknown = e.unknown ∙ turn (contains b unknown_bytes) (any_of unknown_bytes bs) s.unknown;
    }

-- ---- pitches
pub heard_before : (xs : List ℕ) (is : List Item) → heard None (marked xs is) ≡ heard None is
unfolding heard
heard_before [] is = refl
heard_before (x ∷ xs) is = heard_before xs is

pub heard_digits : (v : Option Value) (is : List Item) → heard None (Digits v ∷ is) ≡ heard None is
unfolding heard
heard_digits v is = refl

pub heard_behind : (t : Tone) (xs : List ℕ)
    → heard (Some t) (marked xs []) ≡ record { step = t.step; octave = t.octave; alter = carried altered_by t.alter xs } ∷ []
unfolding heard carried
heard_behind t [] = refl
heard_behind t (x ∷ xs) = heard_behind (record { step = t.step; octave = t.octave; alter = altered_by t.alter x }) xs

-- bytes that are no signs alter nothing
abbrev pub natural : ℕ → Bool
natural b = differs 35 b && (differs 45 b && differs 110 b)

pub natural_over : (alter : ℕ) (xs : List ℕ) → each natural xs ≡ true → carried altered_by alter xs ≡ alter
unfolding carried altered_by
natural_over alter [] e = refl
natural_over alter (x ∷ xs) e =
    let h : natural x ≡ true = each_head natural x xs e in
    let k : (differs 45 x && differs 110 x) ≡ true = and_right (differs 35 x) (differs 45 x && differs 110 x) h in
    rw (not-true (eqb x 35) (and_left (differs 35 x) (differs 45 x && differs 110 x) h), not-true (eqb x 45) (and_left (differs 45 x) (differs 110 x) k), not-true (eqb x 110) (and_right (differs 45 x) (differs 110 x) k))
    (natural_over alter xs (each_tail natural x xs e))

-- ---- signifiers
pub signifiers_marks : (sounding : Bool) (xs : List ℕ) (is : List Item) → each (passes sounding) xs ≡ true
    → signifiers sounding (marked xs is) ≡ signifiers sounding is
unfolding signifiers
signifiers_marks sounding [] is e = refl
signifiers_marks sounding (x ∷ xs) is e =
    rw (each_head (passes sounding) x xs e) (signifiers_marks sounding xs is (each_tail (passes sounding) x xs e))

pub signifiers_digits : (v : Option Value) (is : List Item) → signifiers false (Digits v ∷ is) ≡ signifiers false is
unfolding signifiers
signifiers_digits v is = refl

-- marks none of which is unknown
pub not_unknown : (sounding : Bool) → each (λ x. passes sounding x || contains x unknown_bytes) mark_bytes ≡ true → (xs : List ℕ) → all_in mark_bytes xs ≡ true
    → any_of unknown_bytes xs ≡ false → each (passes sounding) xs ≡ true
unfolding each any_of all_in
not_unknown sounding w [] m o = refl
not_unknown sounding w (x ∷ xs) m o =
    let here : contains x unknown_bytes ≡ false = or_left (contains x unknown_bytes) (any_of unknown_bytes xs) o in
    let passed : (passes sounding x || contains x unknown_bytes) ≡ true = among (λ y. passes sounding y || contains y unknown_bytes) mark_bytes w x (and_left (contains x mark_bytes) (all_in mark_bytes xs) m) in
    rw (or_only (passes sounding x) (contains x unknown_bytes) here passed)
    (not_unknown sounding w xs (and_right (contains x mark_bytes) (all_in mark_bytes xs) m) (or_right (contains x unknown_bytes) (any_of unknown_bytes xs) o))
