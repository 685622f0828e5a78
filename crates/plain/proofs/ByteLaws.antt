-- Bytes by the words that they stand in.
use mathlib.Core.Path.{◌≡◌, refl, sym, ap, subst, ◌∙◌}
use Prim.Native.Nat.{ℕ, ◌+◌, ◌-◌, ◌≤◌, ◌<◌}
use native.Mathlib.Omega.{arith}
use mathlib.Core.List.{List, [], ◌∷◌}
use mathlib.Core.Bool.{Bool, true, false, cond, not, ◌&&◌, ◌||◌}
use lib.Dec.{T, eqb, ltb}
use lib.ListN.{length, get_or}
use borrow.Author.Tests.{eq-eqb, ne_eqb, eqb-true, not-true}
use Rattle.slices.specs.Ascii.{ascii}
use Rattle.slices.specs.Finite.{below, is_true}
use Rattle.notation.specs.Bytes.{contains}
use Rattle.token.specs.Token.{articulation}
use Rattle.plain.specs.Usual.{digit_bytes, unknown_bytes, mark_bytes, all_in, Said, said_by, Marking}
use Rattle.plain.proofs.PieceLaws.{carried_turn}
use Rattle.slices.proofs.TestLaws.{not_both, and_left, and_right}

pub or_left : (a b : Bool) → (a || b) ≡ false → a ≡ false
or_left true b e = e
or_left false b e = refl

pub or_right : (a b : Bool) → (a || b) ≡ false → b ≡ false
or_right true b e = absurd (not_both refl e)
or_right false b e = e

pub or_only : (a b : Bool) → b ≡ false → (a || b) ≡ true → a ≡ true
or_only true b q e = refl
or_only false b q e = absurd (not_both e q)

-- a test that passes at each byte of a list
unfoldable pub each : (ℕ → Bool) → List ℕ → Bool
each test [] = true
each test (x ∷ xs) = test x && each test xs

-- a test that passes at each byte of a word passes at a byte that stands in it
pub among : (test : ℕ → Bool) (word : List ℕ) → each test word ≡ true → (b : ℕ) → contains b word ≡ true → test b ≡ true
unfolding each contains
among test [] e b h = absurd (not_both h refl)
among test (x ∷ xs) e b h = go (eqb x b) refl h (among test xs (and_right (test x) (each test xs) e) b)
  where
    go : (t : Bool) → eqb x b ≡ t → (t || contains b xs) ≡ true → (contains b xs ≡ true → test b ≡ true) → test b ≡ true
    go true q k later = ap test (sym (eqb-true x b q)) ∙ and_left (test x) (each test xs) e
    go false q k later = later k

-- and at each byte of a list of such bytes
pub each_in : (test : ℕ → Bool) (word xs : List ℕ) → each test word ≡ true → all_in word xs ≡ true → each test xs ≡ true
unfolding each all_in
each_in test word [] e h = refl
each_in test word (x ∷ xs) e h =
    rw (among test word e x (and_left (contains x word) (all_in word xs) h), each_in test word xs e (and_right (contains x word) (all_in word xs) h))

-- a byte that does not stand in a word is none of its bytes
pub other : (word : List ℕ) (b x : ℕ) → contains b word ≡ false → contains x word ≡ true → eqb b x ≡ false
other word b x p q = ne_eqb b x (λ e. not_both (ap (λ (y : ℕ). contains y word) e ∙ q) p)

-- and stands in no part of it
pub part : (small word : List ℕ) → each (λ x. contains x word) small ≡ true → (b : ℕ) → contains b word ≡ false → contains b small ≡ false
part small word e b p = go (contains b small) refl
  where
    go : (t : Bool) → contains b small ≡ t → contains b small ≡ false
    go true q = absurd (not_both (among (λ x. contains x word) small e b q) p)
    go false q = q

-- ---- digits
pub digit_in : (b : ℕ) → 48 ≤ b → b ≤ 57 → contains b digit_bytes ≡ true
unfolding contains
digit_in b l h =
    let back : 48 + (b - 48) ≡ b = omega arith in
    is_true (contains b digit_bytes) (subst (λ (x : ℕ). T (contains x digit_bytes)) back (below (λ k. contains (48 + k) digit_bytes) 10 tt (b - 48) (omega arith)))

-- ---- articulations
abbrev articulation_bytes : List ℕ
articulation_bytes = ascii "'^~;Tt"

articulation_by : (a b c d e f : Bool)
    → ltb (cond a 0 (cond b 1 (cond c 2 (cond d 3 (cond e 4 (cond f 4 5)))))) 5 ≡ true → (a || (b || (c || (d || (e || (f || false)))))) ≡ true
articulation_by true b c d e f h = refl
articulation_by false true c d e f h = refl
articulation_by false false true d e f h = refl
articulation_by false false false true e f h = refl
articulation_by false false false false true f h = refl
articulation_by false false false false false true h = refl
articulation_by false false false false false false h = h

swap : (a b : ℕ) → eqb a b ≡ eqb b a
swap a b = go (eqb a b) refl
  where
    go : (t : Bool) → eqb a b ≡ t → eqb a b ≡ eqb b a
    go true e = e ∙ sym (eq-eqb b a (sym (eqb-true a b e)))
    go false e = e ∙ sym (ne_eqb b a (λ q. not_both (eq-eqb a b (sym q)) e))

pub articulation_in : (b : ℕ) → ltb (articulation b) 5 ≡ true → contains b articulation_bytes ≡ true
unfolding articulation contains
articulation_in b h =
    rw (swap 39 b, swap 94 b, swap 126 b, swap 59 b, swap 84 b, swap 116 b)
    (articulation_by (eqb b 39) (eqb b 94) (eqb b 126) (eqb b 59) (eqb b 84) (eqb b 116) h)

-- ---- marks
pub mark_turn : {line : List ℕ} {from i : ℕ} {fresh s t : Said} (b : ℕ) → Marking line from fresh s i → i < length line → get_or line i 0 ≡ b
    → contains b mark_bytes ≡ true → t ≡ said_by s b → Marking line from fresh t (i + 1)
mark_turn {line} {from} {i} {fresh} {s} {t} b inv h e m q =
    carried_turn inv h (ap (λ (x : ℕ). contains x mark_bytes) e ∙ m) (q ∙ ap (said_by s) (sym e))

none : (small : List ℕ) → each (λ x. not (contains x small)) articulation_bytes ≡ true → (b : ℕ) → ltb (articulation b) 5 ≡ true → contains b small ≡ false
none small e b h = not-true (contains b small) (among (λ x. not (contains x small)) articulation_bytes e b (articulation_in b h))

pub said_articulation : (s : Said) (b : ℕ) → ltb (articulation b) 5 ≡ true
    → record { ties = s.ties; tied = s.tied; slurs = s.slurs; slurred = s.slurred; starts = s.starts; ends = s.ends; articulations = s.articulations + 1; unknown = s.unknown }
    ≡ said_by s b
unfolding contains each
said_articulation s b h =
    sym (rw (none (ascii "[_") refl b h, none (ascii "]_") refl b h, none (ascii "(") refl b h, none (ascii ")") refl b h, h, none unknown_bytes refl b h, sw 76 refl, sw 74 refl))
  where
    sw : (x : ℕ) → each (λ y. not (eqb y x)) articulation_bytes ≡ true → eqb b x ≡ false
    sw x e = not-true (eqb b x) (among (λ y. not (eqb y x)) articulation_bytes e b (articulation_in b h))

pub articulation_mark : (b : ℕ) → ltb (articulation b) 5 ≡ true → contains b mark_bytes ≡ true
unfolding contains each
articulation_mark b h = among (λ x. contains x mark_bytes) articulation_bytes refl b (articulation_in b h)

-- an unknown mark
pub unknown_mark : (b : ℕ) → contains b unknown_bytes ≡ true → contains b mark_bytes ≡ true
unfolding contains each
unknown_mark b h = among (λ x. contains x mark_bytes) unknown_bytes refl b h

pub said_unknown : (s : Said) (b : ℕ) → contains b unknown_bytes ≡ true
    → record { ties = s.ties; tied = s.tied; slurs = s.slurs; slurred = s.slurred; starts = s.starts; ends = s.ends; articulations = s.articulations; unknown = true }
    ≡ said_by s b
unfolding contains each articulation
said_unknown s b h = sym (rw (out (ascii "[_") refl, out (ascii "]_") refl, out (ascii "(") refl, out (ascii ")") refl, h, no (λ x. eqb x 76) refl, no (λ x. eqb x 74) refl, no (λ x. ltb (articulation x) 5) refl))
  where
    no : (test : ℕ → Bool) → each (λ x. not (test x)) unknown_bytes ≡ true → test b ≡ false
    no test e = not-true (test b) (among (λ x. not (test x)) unknown_bytes e b h)

    out : (small : List ℕ) → each (λ x. not (contains x small)) unknown_bytes ≡ true → contains b small ≡ false
    out small e = no (λ x. contains x small) e

-- a byte that is no mark says nothing
pub said_still : (s : Said) (b : ℕ) → contains b mark_bytes ≡ false → said_by s b ≡ s
unfolding contains each
said_still s b h =
    rw (part (ascii "[_") mark_bytes refl b h, part (ascii "]_") mark_bytes refl b h, part (ascii "(") mark_bytes refl b h, part (ascii ")") mark_bytes refl b h, other mark_bytes b 76 h refl, other mark_bytes b 74 h refl, part unknown_bytes mark_bytes refl b h, a (ltb (articulation b) 5) refl)
  where
    a : (t : Bool) → ltb (articulation b) 5 ≡ t → ltb (articulation b) 5 ≡ false
    a true q = absurd (not_both (articulation_mark b q) h)
    a false q = q
