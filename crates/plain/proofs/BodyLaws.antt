-- The sound of a token with the marks behind it: a rest, or a pitch with its signs.
use mathlib.Core.Path.{◌≡◌, refl, sym, ap, ◌∙◌}
use Prim.Native.Nat.{ℕ, suc}
use mathlib.Core.List.{List, [], ◌∷◌, ◌++◌, append-nil, append_assoc}
use mathlib.Core.Bool.{Bool, true, false, cond, not, ◌&&◌, ◌||◌}
use lib.Dec.{eqb}
use lib.ListN.{length}
use borrow.Author.Tests.{eq-eqb, eqb-true, ne_eqb, not-true}
use Rattle.slices.proofs.TestLaws.{clash, not_both}
use Rattle.token.proofs.SignifierLaws.{no_signifiers}
use Rattle.notation.specs.Bytes.{contains}
use Rattle.pitch.specs.Pitch.{within, pitch_of, altered_by}
use Rattle.pitch.specs.declared.Pitch.{Pitch}
use Rattle.items.specs.Items.{is_digit, is_letter, runs, pieces, items_of, items}
use Rattle.items.specs.declared.Item.{Item}
use Rattle.items.specs.declared.Item.TheVariants.{Letters}
use Rattle.token.specs.Token.{up_to_blank, marks, count_of, grace_from, begun, heard, any_of, passes, signifiers}
use Rattle.token.specs.declared.pitches.Tone.{Tone}
use Rattle.std.specs.Prelude.{Option, Some, None, unwrap_or}
use Rattle.std.specs.Option.{is_none}
use Rattle.plain.specs.declared.TheConstants.{SILENT}
use Rattle.items.proofs.NextLaws.{letter_no_digit}
use Rattle.plain.specs.Usual.{unknown_bytes, mark_bytes, sign_bytes, all_in, carried, Said, said_by, PitchOf, SoundOf}
use Rattle.plain.proofs.PieceLaws.{carried_append}
use Rattle.plain.proofs.ByteLaws.{each, each_in}
use Rattle.plain.proofs.ItemLaws.{single, marked, begins, items_marks, items_letters, letter_of, not_letter}
use Rattle.plain.proofs.AspectLaws.{each_head, each_tail, differs, graceless, natural, Good, bad_marks, bad_letters, bad_none, up_only, up_letters, marks_only, marks_letters, count_none, contains_none, grace_none, still_over, heard_before, heard_behind, natural_over, not_unknown, signifiers_marks}

-- the sound and the marks of a token, its items, and what is known of them
pub record Body (bytes : List ℕ) (rest : Bool) (t : Tone) (post : List ℕ) : Type 0 where
  pub body : List Item
  pub bs : List ℕ
  pub same : items (bytes ++ post) ≡ body
  pub undigit : begins is_digit (bytes ++ post) ≡ false
  pub unpercent : begins (λ x. eqb x 37) (bytes ++ post) ≡ false
  pub whole : up_to_blank body ≡ body
  pub written : marks body ≡ bs
  pub good : Good false body
  pub tones : heard None body ≡ cond rest [] (t ∷ [])
  pub unknown : any_of unknown_bytes post ≡ false → signifiers false body ≡ []
  pub undotted : count_of 46 bs ≡ 0
  pub rests : contains 114 bs ≡ rest
  pub graces : grace_from 0 bs ≡ 0
  pub marks_say : (s : Said) → carried said_by s bs ≡ carried said_by s post
  pub bytes_say : (s : Said) → carried said_by s (bytes ++ post) ≡ carried said_by s post
  pub tabless : each (differs 9) (bytes ++ post) ≡ true

pub items_only : (xs : List ℕ) → each single xs ≡ true → items xs ≡ marked xs []
unfolding runs pieces items_of
items_only xs e = ap items (sym (append-nil xs)) ∙ items_marks xs [] e

over : {A : Type 0} (f : List ℕ → A) (xs : List ℕ) → f (xs ++ []) ≡ f xs
over f xs = ap f (append-nil xs)

count_empty : (b : ℕ) (xs : List ℕ) → each (differs b) xs ≡ true → count_of b xs ≡ 0
unfolding count_of
count_empty b xs e = sym (over (count_of b) xs) ∙ count_none b xs [] e

contains_empty : (b : ℕ) (xs : List ℕ) → each (differs b) xs ≡ true → contains b xs ≡ false
unfolding contains
contains_empty b xs e = sym (over (contains b) xs) ∙ contains_none b xs [] e

grace_empty : (xs : List ℕ) → each graceless xs ≡ true → grace_from 0 xs ≡ 0
unfolding grace_from
grace_empty xs e = sym (over (grace_from 0) xs) ∙ grace_none xs [] e

pub each_join : (test : ℕ → Bool) (xs ys : List ℕ) → each test xs ≡ true → each test ys ≡ true → each test (xs ++ ys) ≡ true
unfolding each
each_join test [] ys p q = q
each_join test (x ∷ xs) ys p q = rw (each_head test x xs p) (each_join test xs ys (each_tail test x xs p) q)

-- ---- a rest
module _ (post : List ℕ) (m : all_in mark_bytes post ≡ true) where
  pub body_rest : (t : Tone) → Body (114 ∷ []) true t post
  unfolding each single is_letter within contains count_of grace_from carried signifiers passes heard
  body_rest t =
      let all : each single (114 ∷ post) ≡ true = each_in single mark_bytes post refl m in
      record {
        body = marked (114 ∷ post) [];
        bs = 114 ∷ post;
        same = items_only (114 ∷ post) all;
        undigit = refl;
        unpercent = refl;
        whole = up_only (114 ∷ post);
        written = marks_only (114 ∷ post);
        good = bad_marks false (114 ∷ post) [] (each_in (differs 37) mark_bytes post refl m) bad_none;
        tones = heard_before (114 ∷ post) [];
        unknown = λ o. signifiers_marks false (114 ∷ post) [] (not_unknown false refl post m o) ∙ no_signifiers false;
        undotted = count_empty 46 (114 ∷ post) (each_in (differs 46) mark_bytes post refl m);
        rests = refl;
        graces = grace_empty (114 ∷ post) (each_in graceless mark_bytes post refl m);
        marks_say = λ s. ap (λ (u : Said). carried said_by u post) (still_over s (114 ∷ []) refl);
        bytes_say = λ s. ap (λ (u : Said). carried said_by u post) (still_over s (114 ∷ []) refl);
        tabless = each_in (differs 9) mark_bytes post refl m;
      }

-- ---- a pitch
others : (word : List ℕ) (c : ℕ) → contains c word ≡ false → each (differs c) word ≡ true
unfolding contains each
others [] c e = refl
others (x ∷ xs) c e = go (eqb x c) refl (λ k. others xs c k) e
  where
    go : (t : Bool) → eqb x c ≡ t → (contains c xs ≡ false → each (differs c) xs ≡ true) → (t || contains c xs) ≡ false
        → (not (eqb x c) && each (differs c) xs) ≡ true
    go true q later k = absurd (not_both refl k)
    go false q later k = rw q (later k)

begins_each : (test : ℕ → Bool) (xs : List ℕ) → each (λ x. not (test x)) xs ≡ true → begins test xs ≡ false
begins_each test [] e = refl
begins_each test (x ∷ xs) e = not-true (test x) (each_head (λ y. not (test y)) x xs e)

each_copy : (test : ℕ → Bool) (c : ℕ) (xs : List ℕ) → test c ≡ true → each (λ x. eqb x c) xs ≡ true → each test xs ≡ true
unfolding each
each_copy test c [] p e = refl
each_copy test c (x ∷ xs) p e =
    let h : test x ≡ true = ap test (eqb-true x c (each_head (λ y. eqb y c) x xs e)) ∙ p in
    rw h (each_copy test c xs p (each_tail (λ y. eqb y c) x xs e))

no_letter : (b : ℕ) → is_letter b ≡ false → (c : ℕ) → is_letter c ≡ true → eqb c b ≡ false
no_letter b n c l = ne_eqb c b (λ e. not_both (sym (ap is_letter e) ∙ l) n)

module _ (c : ℕ) (cs signs post : List ℕ) (t : Tone) (same : each (λ x. eqb x c) cs ≡ true) (place : pitch_of c (suc (length cs)) ≡ Some (record { step = t.step; octave = t.octave })) (signed : all_in sign_bytes signs ≡ true) (alter : carried altered_by 128 signs ≡ t.alter) (m : all_in mark_bytes post ≡ true) where
  both : (test : ℕ → Bool) → each test sign_bytes ≡ true → each test mark_bytes ≡ true → each test (signs ++ post) ≡ true
  both test p q = each_join test signs post (each_in test sign_bytes signs p signed) (each_in test mark_bytes post q m)

  letter : is_letter c ≡ true
  letter = letter_of c (suc (length cs)) place

  apart : each (differs c) (signs ++ post) ≡ true
  unfolding each is_letter within
  apart = both (differs c) (others sign_bytes c (not_letter sign_bytes refl c letter)) (others mark_bytes c (not_letter mark_bytes refl c letter))

  kept : (test : ℕ → Bool) → test c ≡ true → each test sign_bytes ≡ true → each test ((c ∷ cs) ++ signs) ≡ true
  unfolding each
  kept test p q = each_join test (c ∷ cs) signs (rw p (each_copy test c cs p same)) (each_in test sign_bytes signs q signed)

  altered : carried altered_by 128 (signs ++ post) ≡ t.alter
  unfolding each
  altered = carried_append altered_by 128 signs post ∙ natural_over (carried altered_by 128 signs) post (each_in natural mark_bytes post refl m) ∙ alter

  quiet : (s : Said) → carried said_by s ((c ∷ cs) ++ signs) ≡ s
  unfolding each contains is_letter within
  quiet s = still_over s ((c ∷ cs) ++ signs) (kept (λ b. not (contains b mark_bytes)) (rw (not_letter mark_bytes refl c letter)) refl)

  body_letters : Body ((c ∷ cs) ++ signs) false t post
  unfolding each single is_letter within contains count_of grace_from signifiers passes heard
  body_letters =
      let tail : List ℕ = signs ++ post in
      let n : ℕ = suc (length cs) in
      record {
        body = Letters c n ∷ marked tail [];
        bs = tail;
        same =
            ap items (append_assoc (c ∷ cs) signs post)
            ∙ items_letters c cs tail (letter_no_digit c letter) letter same (begins_each (λ x. eqb x c) tail apart)
            ∙ ap (λ (is : List Item). Letters c n ∷ is) (items_only tail (both single refl refl));
        undigit = letter_no_digit c letter;
        unpercent = no_letter 37 refl c letter;
        whole = up_letters c n (marked tail []) ∙ ap (λ (is : List Item). Letters c n ∷ is) (up_only tail);
        written = marks_letters c n (marked tail []) ∙ marks_only tail;
        good = bad_letters c n (marked tail []) (bad_marks false tail [] (both (differs 37) refl refl) (bad_none));
        tones =
            ap (λ (p : Option Pitch). heard (begun None p) (marked tail [])) place
            ∙ heard_behind (record { step = t.step; octave = t.octave; alter = 128 }) tail
            ∙ ap (λ (a : ℕ). record { step = t.step; octave = t.octave; alter = a } ∷ []) altered;
        unknown = λ o. rw place (signifiers_marks true tail [] (each_join (passes true) signs post (each_in (passes true) sign_bytes signs refl signed) (not_unknown true refl post m o)) ∙ no_signifiers true);
        undotted = count_empty 46 tail (both (differs 46) refl refl);
        rests = contains_empty 114 tail (both (differs 114) refl refl);
        graces = grace_empty tail (both graceless refl refl);
        marks_say = λ s. carried_append said_by s signs post ∙ ap (λ (u : Said). carried said_by u post) (still_over s signs (each_in (λ b. not (contains b mark_bytes)) sign_bytes signs refl signed));
        bytes_say = λ s. carried_append said_by s ((c ∷ cs) ++ signs) post ∙ ap (λ (u : Said). carried said_by u post) (quiet s);
        tabless = each_join (differs 9) ((c ∷ cs) ++ signs) post (kept (differs 9) (rw (no_letter 9 refl c letter)) refl) (each_in (differs 9) mark_bytes post refl m);
      }

body_run : (c : ℕ) (run signs post : List ℕ) (t : Tone) → each (λ x. eqb x c) run ≡ true → pitch_of c (length run) ≡ Some (record { step = t.step; octave = t.octave })
    → all_in sign_bytes signs ≡ true → carried altered_by 128 signs ≡ t.alter → all_in mark_bytes post ≡ true → Body (run ++ signs) false t post
unfolding pitch_of
body_run c [] signs post t e p s a m = clash cc
body_run c (x ∷ cs) signs post t e p s a m =
    rw (eqb-true x c (each_head (λ y. eqb y c) x cs e)) (body_letters c cs signs post t (each_tail (λ y. eqb y c) x cs e) p s a m)

body_pitch : (bytes post : List ℕ) (t : Tone) → PitchOf bytes t → all_in mark_bytes post ≡ true → Body bytes false t post
unfolding each
body_pitch bytes post t h m =
    let w : each (λ x. eqb x h.letter) (h.letter ∷ []) ≡ true = rw (eq-eqb h.letter h.letter refl) in
    rw h.parts (body_run h.letter h.run h.signs post t (each_in (λ x. eqb x h.letter) (h.letter ∷ []) h.run w h.letters) h.place h.signed h.alter m)

pub body_of : {bytes : List ℕ} (post : List ℕ) (sound : Option Tone) → SoundOf bytes sound → all_in mark_bytes post ≡ true → Body bytes (is_none sound) (unwrap_or sound SILENT) post
body_of post None e m = rw e (body_rest post m SILENT)
body_of {bytes} post (Some t) h m = body_pitch bytes post t h m
