-- A token of the usual shape, and what is known of it.
use mathlib.Core.Path.{◌≡◌, refl, sym, ap, ◌∙◌}
use Prim.Native.Nat.{ℕ, ◌≤◌, ◌<◌, min}
use native.Mathlib.Nat.{not-suc-le-zero}
use native.Mathlib.Omega.{arith}
use mathlib.Core.List.{List, [], ◌∷◌, ◌++◌}
use mathlib.Core.Bool.{Bool, true, false, cond, not, ◌||◌, or-false}
use lib.Dec.{eqb}
use lib.ListN.{length}
use borrow.Author.Tests.{not-true}
use Rattle.slices.specs.Ascii.{ascii}
use Rattle.slices.specs.Compare.{same_bytes}
use Rattle.lines.specs.Tokens.{is_null}
use Rattle.notation.specs.Bytes.{contains}
use Rattle.notation.specs.Beam.{letters_of}
use Rattle.pitch.specs.Pitch.{within}
use Rattle.duration.specs.Duration.{duration_of}
use Rattle.duration.specs.declared.Value.{Value}
use Rattle.items.specs.Items.{is_digit, is_letter, items}
use Rattle.items.specs.declared.Item.{Item}
use Rattle.items.specs.declared.Item.TheVariants.{Digits}
use Rattle.token.specs.declared.scan.Before.TheVariants.{Nothing}
use Rattle.token.specs.Token.{is_bad, given_by, first_sub, given_in, marks, count_of, dots_of, rest_of, any_of, grace_from, articulations_in, heard, passes, signifiers}
use Rattle.token.specs.Scan.{scan_items, scan_of}
use Rattle.token.specs.Outcome.{outcome_of, noted, note_of}
use Rattle.token.specs.declared.scan.Scan.{Scan}
use Rattle.token.specs.declared.outcome.Note.{Note}
use Rattle.token.specs.declared.pitches.Tone.{Tone}
use Rattle.std.specs.Prelude.{Option, Some, None, Ok}
use Rattle.token.proofs.AccountLaws.{given_noted}
use Rattle.plain.specs.Plain.{PlainToken}
use Rattle.plain.specs.Usual.{digit_bytes, unknown_bytes, mark_bytes, all_in, carried, Said, said_by, opened, note_from}
use Rattle.plain.specs.declared.Plain.{Plain}
use Rattle.plain.specs.declared.Valued.{Valued}
use Rattle.plain.proofs.PieceLaws.{carried_append}
use Rattle.plain.proofs.ByteLaws.{each, each_in, or_left, or_right}
use Rattle.plain.proofs.ItemLaws.{single, marked, begins, begins_over, items_marks, items_digits}
use Rattle.plain.proofs.AspectLaws.{each_head, differs, graceless, bad_marks, bad_digits, up_marks, first_marks, silent_marks, given_marks, marks_marks, marks_digits, count_none, count_all, contains_none, grace_none, still_over, says, heard_before, heard_digits, not_unknown, signifiers_marks, signifiers_digits}
use Rattle.plain.proofs.BodyLaws.{Body, each_join}

-- the scan of such a token, with so many signifiers
abbrev usual : Option Value → ℕ → Bool → Said → ℕ → Scan
usual v dots rest s unknowns =
    record {
      bad = false;
      silent = false;
      given = given_by v;
      dots = dots;
      rest = rest;
      pitches = cond rest 0 1;
      signifiers = unknowns;
      ties = s.ties;
      tied = s.tied;
      slurs = s.slurs;
      slurred = s.slurred;
      grace = 0;
      articulations = s.articulations;
    }

least : (n : ℕ) → n ≤ 3 → min 3 n ≡ n
least n h = omega arith

one_or_none : (rest : Bool) (t : Tone) → length (cond rest [] (t ∷ [])) ≡ cond rest 0 1
one_or_none true t = refl
one_or_none false t = refl

-- a list that begins with a byte other than `.` is no null token
null_first : (x : ℕ) (xs : List ℕ) → differs 46 x ≡ true → is_null (x ∷ xs) ≡ false
unfolding is_null same_bytes
null_first x xs e = rw (not-true (eqb x 46) e)

not_null : (xs ys : List ℕ) → each (differs 46) xs ≡ true → is_null ys ≡ false → is_null (xs ++ ys) ≡ false
not_null [] ys e h = h
not_null (x ∷ xs) ys e h = null_first x (xs ++ ys) (each_head (differs 46) x xs e)

some_null : (xs ys : List ℕ) → 0 < length xs → each (differs 46) xs ≡ true → is_null (xs ++ ys) ≡ false
some_null [] ys h e = absurd (not-suc-le-zero h)
some_null (x ∷ xs) ys h e = null_first x (xs ++ ys) (each_head (differs 46) x xs e)

-- the marks, digits, dots and the rest of a token
module _ (pre ds dots bytes post : List ℕ) (rest : Bool) (t : Tone) (p : all_in mark_bytes pre ≡ true) (q : all_in digit_bytes ds ≡ true) (some : 0 < length ds) (o : all_in (46 ∷ []) dots ≡ true) (few : length dots ≤ 3) (b : Body bytes rest t post) where
  abbrev token : List ℕ
  token = pre ++ (ds ++ (dots ++ (bytes ++ post)))

  abbrev is : List Item
  is = marked pre (Digits (duration_of ds) ∷ marked dots b.body)

  abbrev ms : List ℕ
  ms = pre ++ (dots ++ b.bs)

  digits_first : (ds rest : List ℕ) → all_in digit_bytes ds ≡ true → 0 < length ds → begins is_digit rest ≡ false → begins (λ x. eqb x 37) rest ≡ false
      → items (ds ++ rest) ≡ Digits (duration_of ds) ∷ items rest
  unfolding each within contains
  digits_first [] rest q some e n = absurd (not-suc-le-zero some)
  digits_first (d ∷ ds) rest q some e n = items_digits d ds rest (each_in is_digit digit_bytes (d ∷ ds) refl q) e n

  items_are : items token ≡ is
  unfolding each single is_letter within contains
  items_are =
      items_marks pre (ds ++ (dots ++ (bytes ++ post))) (each_in single mark_bytes pre refl p)
      ∙ ap (marked pre)
      (digits_first ds (dots ++ (bytes ++ post)) q some
      (begins_over is_digit dots (bytes ++ post) (each_in (λ x. not (is_digit x)) (46 ∷ []) dots refl o) b.undigit)
      (begins_over (λ x. eqb x 37) dots (bytes ++ post) (each_in (differs 37) (46 ∷ []) dots refl o) b.unpercent)
      ∙ ap (λ (r : List Item). Digits (duration_of ds) ∷ r)
      (items_marks dots (bytes ++ post) (each_in single (46 ∷ []) dots refl o) ∙ ap (marked dots) b.same))

  marks_are : marks is ≡ ms
  marks_are =
      marks_marks pre (Digits (duration_of ds) ∷ marked dots b.body)
      ∙ ap (λ (l : List ℕ). pre ++ l)
      (marks_digits (duration_of ds) (marked dots b.body) ∙ marks_marks dots b.body ∙ ap (λ (l : List ℕ). dots ++ l) b.written)

  first_is : first_sub is ≡ is
  first_is = first_marks pre (duration_of ds) (marked dots b.body) (up_marks dots b.body ∙ ap (marked dots) b.whole)

  good : is_bad is ≡ false
  unfolding each
  good =
      bad_marks true pre (Digits (duration_of ds) ∷ marked dots b.body) (each_in (differs 37) mark_bytes pre refl p)
      (bad_digits (duration_of ds) (marked dots b.body)
      (bad_marks false dots b.body (each_in (differs 37) (46 ∷ []) dots refl o) b.good)) false Nothing refl

  dotted : dots_of is ≡ length dots
  unfolding dots_of each
  dotted =
      ap (λ (l : List Item). min 3 (count_of 46 (marks l))) first_is
      ∙ ap (λ (l : List ℕ). min 3 (count_of 46 l)) marks_are
      ∙ ap (min 3)
      (count_none 46 pre (dots ++ b.bs) (each_in (differs 46) mark_bytes pre refl p)
      ∙ count_all 46 dots b.bs (each_in (λ x. eqb x 46) (46 ∷ []) dots refl o)
      ∙ omega (arith, b.undotted))
      ∙ least (length dots) few

  rested : rest_of is ≡ rest
  unfolding rest_of each
  rested =
      ap (λ (l : List Item). contains 114 (marks l)) first_is
      ∙ ap (contains 114) marks_are
      ∙ contains_none 114 pre (dots ++ b.bs) (each_in (differs 114) mark_bytes pre refl p)
      ∙ contains_none 114 dots b.bs (each_in (differs 114) (46 ∷ []) dots refl o)
      ∙ b.rests

  graces : grace_from 0 (marks is) ≡ 0
  unfolding each
  graces =
      ap (grace_from 0) marks_are
      ∙ grace_none pre (dots ++ b.bs) (each_in graceless mark_bytes pre refl p)
      ∙ grace_none dots b.bs (each_in graceless (46 ∷ []) dots refl o)
      ∙ b.graces

  tones : heard None is ≡ cond rest [] (t ∷ [])
  tones =
      heard_before pre (Digits (duration_of ds) ∷ marked dots b.body)
      ∙ heard_digits (duration_of ds) (marked dots b.body)
      ∙ heard_before dots b.body
      ∙ b.tones

  none_unknown : any_of unknown_bytes pre ≡ false → any_of unknown_bytes post ≡ false → signifiers false is ≡ []
  unfolding each passes contains
  none_unknown e k =
      signifiers_marks false pre (Digits (duration_of ds) ∷ marked dots b.body) (not_unknown false refl pre p e)
      ∙ signifiers_digits (duration_of ds) (marked dots b.body)
      ∙ signifiers_marks false dots b.body (each_in (passes false) (46 ∷ []) dots refl o)
      ∙ b.unknown k

  sounds_is : is_null token ≡ false
  unfolding each
  sounds_is =
      not_null pre (ds ++ (dots ++ (bytes ++ post))) (each_in (differs 46) mark_bytes pre refl p)
      (some_null ds (dots ++ (bytes ++ post)) some (each_in (differs 46) digit_bytes ds refl q))

  pub tabless : each (differs 9) token ≡ true
  unfolding each
  tabless =
      each_join (differs 9) pre (ds ++ (dots ++ (bytes ++ post))) (each_in (differs 9) mark_bytes pre refl p)
      (each_join (differs 9) ds (dots ++ (bytes ++ post)) (each_in (differs 9) digit_bytes ds refl q)
      (each_join (differs 9) dots (bytes ++ post) (each_in (differs 9) (46 ∷ []) dots refl o) b.tabless))

  abbrev quiet : ℕ → Bool
  quiet x = not (contains x mark_bytes)

  -- what the marks of the token say, and what its bytes say
  module _ (s : Said) (e : carried said_by (carried said_by (opened false false) pre) post ≡ s) where
    marks_say_lem : carried said_by (opened false false) ms ≡ s
    unfolding each contains
    marks_say_lem =
        carried_append said_by (opened false false) pre (dots ++ b.bs)
        ∙ carried_append said_by (carried said_by (opened false false) pre) dots b.bs
        ∙ ap (λ (u : Said). carried said_by u b.bs) (still_over (carried said_by (opened false false) pre) dots (each_in quiet (46 ∷ []) dots refl o))
        ∙ b.marks_say (carried said_by (opened false false) pre)
        ∙ e

    bytes_say_lem : carried said_by (opened false false) token ≡ s
    unfolding each contains
    bytes_say_lem =
        let u : Said = carried said_by (opened false false) pre in
        carried_append said_by (opened false false) pre (ds ++ (dots ++ (bytes ++ post)))
        ∙ carried_append said_by u ds (dots ++ (bytes ++ post))
        ∙ ap (λ (w : Said). carried said_by w (dots ++ (bytes ++ post))) (still_over u ds (each_in quiet digit_bytes ds refl q))
        ∙ carried_append said_by u dots (bytes ++ post)
        ∙ ap (λ (w : Said). carried said_by w (bytes ++ post)) (still_over u dots (each_in quiet (46 ∷ []) dots refl o))
        ∙ b.bytes_say u
        ∙ e

    scan_is : scan_items is ≡ usual (duration_of ds) (length dots) rest s (length (signifiers false is))
    unfolding scan_items
    scan_is =
        let g = says (opened false false) ms in
        let m = marks_are in
        let ties : any_of (ascii "[_") (marks is) ≡ s.ties = ap (any_of (ascii "[_")) m ∙ sym (g.ties ∙ or-false _) ∙ ap (λ (u : Said). u.ties) marks_say_lem in
        let tied : any_of (ascii "]_") (marks is) ≡ s.tied = ap (any_of (ascii "]_")) m ∙ sym (g.tied ∙ or-false _) ∙ ap (λ (u : Said). u.tied) marks_say_lem in
        let slurs : any_of (ascii "(") (marks is) ≡ s.slurs = ap (any_of (ascii "(")) m ∙ sym (g.slurs ∙ or-false _) ∙ ap (λ (u : Said). u.slurs) marks_say_lem in
        let slurred : any_of (ascii ")") (marks is) ≡ s.slurred = ap (any_of (ascii ")")) m ∙ sym (g.slurred ∙ or-false _) ∙ ap (λ (u : Said). u.slurred) marks_say_lem in
        let arts : length (articulations_in (marks is)) ≡ s.articulations = ap (λ (l : List ℕ). length (articulations_in l)) m ∙ omega (arith, g.articulations, ap (λ (u : Said). u.articulations) marks_say_lem) in
        let given : given_in (first_sub is) ≡ given_by (duration_of ds) = ap given_in first_is ∙ given_marks pre (duration_of ds) (marked dots b.body) in
        let pitches : length (heard None is) ≡ cond rest 0 1 = ap length tones ∙ one_or_none rest t in
        rw (good, silent_marks pre (duration_of ds) (marked dots b.body), given, dotted, rested, pitches, ties, tied, slurs, slurred, graces, arts)

    letters_are : letters_of token ≡ record { starts = s.starts; ends = s.ends }
    letters_are =
        let g = says (opened false false) token in
        let l : contains 76 token ≡ s.starts = sym (g.starts ∙ or-false _) ∙ ap (λ (u : Said). u.starts) bytes_say_lem in
        let j : contains 74 token ≡ s.ends = sym (g.ends ∙ or-false _) ∙ ap (λ (u : Said). u.ends) bytes_say_lem in
        rw (l, j)

    -- it has nothing to report where no mark is unknown
    quiet_token : s.unknown ≡ false → signifiers false is ≡ []
    quiet_token q =
        let u : Said = carried said_by (opened false false) pre in
        let first : u.unknown ≡ any_of unknown_bytes pre = (says (opened false false) pre).unknown ∙ or-false _ in
        let then : (any_of unknown_bytes post || u.unknown) ≡ false = sym (says u post).unknown ∙ ap (λ (w : Said). w.unknown) e ∙ q in
        none_unknown (sym first ∙ or_right (any_of unknown_bytes post) u.unknown then) (or_left (any_of unknown_bytes post) u.unknown then)

    -- a token of this shape is a note, whatever its peers give
    module _ (v : Valued) (parts : (w : Scan) → noted (duration_of ds) w ≡ Ok (Some (note_of false v.value v.actual v.normal w))) where
      outcome_is : (inferred : Option Value) → outcome_of (scan_of token) inferred ≡ Ok (Some (note_from v (length dots) rest s))
      unfolding outcome_of note_of
      outcome_is inferred =
          ap (λ (l : List Item). outcome_of (scan_items l) inferred) items_are
          ∙ ap (λ (w : Scan). outcome_of w inferred) scan_is
          ∙ go rest
        where
          unknowns : ℕ
          unknowns = length (signifiers false is)

          go : (r : Bool) → outcome_of (usual (duration_of ds) (length dots) r s unknowns) inferred ≡ Ok (Some (note_from v (length dots) r s))
          go true = given_noted (duration_of ds) inferred (usual (duration_of ds) (length dots) true s unknowns) ∙ parts (usual (duration_of ds) (length dots) true s unknowns)
          go false = given_noted (duration_of ds) inferred (usual (duration_of ds) (length dots) false s unknowns) ∙ parts (usual (duration_of ds) (length dots) false s unknowns)

      pub plain_token : (x : Plain) → x.note ≡ note_from v (length dots) rest s → x.tone ≡ t → x.starts ≡ s.starts → x.ends ≡ s.ends → x.unknown ≡ s.unknown → PlainToken token x
      plain_token x n tone starts ends unknown =
          record {
            outcome = λ i. outcome_is i ∙ ap (λ (m : Note). Ok (Some m)) (sym n);
            reports = λ q. rw (items_are, good) (quiet_token (sym unknown ∙ q));
            sure = rw n;
            letters = letters_are ∙ rw (starts, ends);
            pitches = rw (items_are, rested, n, tone) (ap (λ (l : List Tone). cond rest [] l) tones ∙ twice rest);
            counted = rw n;
            sounds = sounds_is;
          }
        where
          twice : (r : Bool) → cond r [] (cond r [] (t ∷ [])) ≡ cond r [] (t ∷ [])
          twice true = refl
          twice false = refl
