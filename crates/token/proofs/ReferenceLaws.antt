-- The pitches that are heard in a note token are those of the **kern reference.
use mathlib.Core.Path.{◌≡◌, refl, sym, ap, ap₂, ◌∙◌}
use Prim.Native.Nat.{ℕ, zero, suc, ◌+◌, ◌-◌, ◌≤◌, min}
use native.Mathlib.Omega.{arith}
use mathlib.Core.List.{List, [], ◌∷◌, ◌++◌, append_assoc, append-nil}
use mathlib.Core.Bool.{Bool, true, false, cond, ◌&&◌, ◌||◌}
use lib.Dec.{eqb, leb}
use lib.ListN.{length, replicate, length-replicate}
use borrow.Author.Tests.{eq-eqb, ne_eqb, eqb-true, eqb-false, leb-true, leb-false}
use Rattle.std.proofs.lemmas.Bool.{and_parts, or_parts}
use Rattle.slices.specs.Finite.{is_true}
use Rattle.std.specs.Prelude.{Option, Some, None, filter}
use Rattle.std.specs.List.{list_all}
use Rattle.notation.specs.Bytes.{contains}
use Rattle.pitch.specs.Pitch.{within, pitch_of, altered_by, signs}
use Rattle.pitch.specs.Reference.{Step, C, D, E, F, G, A, B, Case, lower, upper, letter_of, Octave, above, below, octave_of, Numbered, Accidental, sharp, flat, natural, written}
use Rattle.pitch.proofs.Letters.{seven}
use Rattle.pitch.proofs.Agreement.{inside, outside, sharps, sharps_end, flats, flats_end, natural_sets}
use Rattle.items.specs.Items.{is_digit, is_letter, joins, into, runs, is_number, is_percent, pieces, length_item, item_of, items_of, items}
use Rattle.items.specs.declared.Item.{Item}
use Rattle.items.specs.declared.Item.TheVariants.{Digits, Ratio, Letters, Blank, Mark}
use Rattle.items.proofs.NextLaws.{letter_no_digit}
use Rattle.items.proofs.PieceLaws.{percent_byte, number_append, three}
use Rattle.duration.specs.Ratio.{is_ratio, spelled_value}
use Rattle.token.specs.Token.{up_to_blank, first_sub, marks, rest_of, begun, signed, given, heard}
use Rattle.token.specs.Outcome.{note_pitches}
use Rattle.token.specs.Reference.{of_pitch, SubToken, bytes_of, token_of, octave_number, alteration, tone_at, reference_tones}
use Rattle.token.specs.declared.pitches.Tone.{Tone}

-- ---- the reference's numbers
-- an octave's number is the one from 0 to 9 that `Numbered` gives it, and it has none where `Numbered` gives none
pub numbered : (o : Octave) (n : ℕ) → octave_number o ≡ Some n → Numbered o n × (n ≤ 9)
unfolding octave_number Numbered
numbered (above k) n e = go (leb k 5) refl e
  where
    go : (t : Bool) → leb k 5 ≡ t → cond t (Some (4 + k)) None ≡ Some n → (n ≡ 4 + k) × (n ≤ 9)
    go true p q = let l : k ≤ 5 = leb-true _ _ p in let s : 4 + k ≡ n = cc in (sym s, omega arith)
    go false p q = absurd cc
numbered (below k) n e = go (leb k 3) refl e
  where
    go : (t : Bool) → leb k 3 ≡ t → cond t (Some (3 - k)) None ≡ Some n → (n + k ≡ 3) × (n ≤ 9)
    go true p q = let l : k ≤ 3 = leb-true _ _ p in let s : 3 - k ≡ n = cc in (omega arith, omega arith)
    go false p q = absurd cc

pub unnumbered : (o : Octave) → octave_number o ≡ None → (n : ℕ) → Numbered o n → n ≤ 9 → ⊥
unfolding octave_number Numbered
unnumbered (above k) e n q h = go (leb k 5) refl e
  where
    go : (t : Bool) → leb k 5 ≡ t → cond t (Some (4 + k)) None ≡ None → ⊥
    go true p r = cc
    go false p r = let l = leb-false _ _ p in omega arith
unnumbered (below k) e n q h = go (leb k 3) refl e
  where
    go : (t : Bool) → leb k 3 ≡ t → cond t (Some (3 - k)) None ≡ None → ⊥
    go true p r = cc
    go false p r = let l = leb-false _ _ p in omega arith

pub altered : (a : Accidental) → signs 128 (written a) ≡ alteration a
unfolding alteration
altered (sharp k) = go (leb k 127) refl
  where
    go : (t : Bool) → leb k 127 ≡ t → signs 128 (written (sharp k)) ≡ 128 + min k 127
    go true p = let l : k ≤ 127 = leb-true _ _ p in sharps k l ∙ omega arith
    go false p = let l = leb-false _ _ p in sharps_end k (omega arith) ∙ omega arith
altered (flat k) = go (leb k 128) refl
  where
    go : (t : Bool) → leb k 128 ≡ t → signs 128 (written (flat k)) ≡ 128 - min k 128
    go true p = let l : k ≤ 128 = leb-true _ _ p in flats k l ∙ omega arith
    go false p = let l = leb-false _ _ p in flats_end k (omega arith) ∙ omega arith
altered natural = natural_sets 128 []

-- ---- digits and the `%` between them say nothing of a pitch: the runs of a token give what its pieces give
abbrev run_items : List ℕ → List Item
run_items token = items_of (runs token)

pub heard_length : (s : Option Tone) (r : List ℕ) (is : List Item) → heard s (length_item r ∷ is) ≡ heard s is
unfolding heard
heard_length s r is = go (is_ratio r)
  where
    go : (t : Bool) → heard s (cond t (Ratio (spelled_value r)) (Digits (spelled_value r)) ∷ is) ≡ heard s is
    go true = refl
    go false = refl

heard_number : (s : Option Tone) (r : List ℕ) (is : List Item) → is_number r ≡ true → heard s (item_of r ∷ is) ≡ heard s is
unfolding item_of heard within
heard_number s [] is d = cc
heard_number s (x ∷ r) is d = rw d (heard_length s (x ∷ r) is)

signed_percent : (s : Option Tone) → signed s 37 ≡ s
unfolding altered_by
signed_percent None = refl
signed_percent (Some t) = refl

heard_percent : (s : Option Tone) (p : List ℕ) (is : List Item) → is_percent p ≡ true → heard s (item_of p ∷ is) ≡ heard s is
unfolding item_of heard is_letter within
heard_percent s p is e = rw (percent_byte p e) (ap (λ (u : Option Tone). heard u is) (signed_percent s))

-- behind an item, lists that are heard alike are heard alike
heard_on : (i : Item) (is js : List Item) → ((s : Option Tone) → heard s is ≡ heard s js) → (s : Option Tone) → heard s (i ∷ is) ≡ heard s (i ∷ js)
unfolding heard
heard_on (Digits v) is js e s = e s
heard_on (Ratio v) is js e s = e s
heard_on (Letters c n) is js e s = e (begun s (pitch_of c n))
heard_on Blank is js e s = ap (λ (ts : List Tone). given s ++ ts) (e None)
heard_on (Mark b) is js e s = e (signed s b)

heard_pieces : (rs : List (List ℕ)) (s : Option Tone) → heard s (items_of (pieces rs)) ≡ heard s (items_of rs)
unfolding items_of pieces
heard_pieces [] s = refl
heard_pieces (r ∷ []) s = refl
heard_pieces (r ∷ p ∷ []) s = refl
heard_pieces (r ∷ p ∷ q ∷ rs) s = go (is_number r && is_percent p && is_number q) refl (heard_pieces rs s) (heard_pieces (p ∷ q ∷ rs))
  where
    go : (t : Bool) → (is_number r && is_percent p && is_number q) ≡ t → heard s (items_of (pieces rs)) ≡ heard s (items_of rs)
        → ((u : Option Tone) → heard u (items_of (pieces (p ∷ q ∷ rs))) ≡ heard u (items_of (p ∷ q ∷ rs)))
        → heard s (items_of (cond t ((r ++ (p ++ q)) ∷ pieces rs) (r ∷ pieces (p ∷ q ∷ rs)))) ≡ heard s (items_of (r ∷ p ∷ q ∷ rs))
    go true e h k =
        let t = three r p q e in
        heard_number s (r ++ (p ++ q)) (items_of (pieces rs)) (number_append r (p ++ q) t.first) ∙ h
        ∙ sym (heard_number s r (items_of (p ∷ q ∷ rs)) t.first ∙ heard_percent s p (items_of (q ∷ rs)) t.percent ∙ heard_number s q (items_of rs) t.second)
    go false e h k = heard_on (item_of r) _ _ k s

-- ---- the runs of a token, byte by byte
-- the first run begins with the first byte
record Front (y : ℕ) (rs : List (List ℕ)) : Type 0 where
  pub run : List ℕ
  pub others : List (List ℕ)
  pub is : rs ≡ (y ∷ run) ∷ others

front : (y : ℕ) (rs : List (List ℕ)) → Front y (into y rs)
unfolding into
front y [] = record { run = []; others = []; is = refl }
front y ([] ∷ rs) = record { run = []; others = rs; is = refl }
front y ((z ∷ r) ∷ rs) = go (joins y z)
  where
    go : (t : Bool) → Front y (cond t ((y ∷ z ∷ r) ∷ rs) ((y ∷ []) ∷ (z ∷ r) ∷ rs))
    go true = record { run = z ∷ r; others = rs; is = refl }
    go false = record { run = []; others = (z ∷ r) ∷ rs; is = refl }

-- a byte that is no digit and no letter is a run of its own
alone : (x : ℕ) (xs : List ℕ) → is_digit x ≡ false → is_letter x ≡ false → runs (x ∷ xs) ≡ (x ∷ []) ∷ runs xs
unfolding runs into joins
alone x [] d l = refl
alone x (y ∷ ys) d l = let f = front y (runs ys) in rw f.is (rw (d, l))

-- what stands behind a run of the letter c: nothing, or another byte
data Stops (c : ℕ) : List ℕ → Type 0 where
  end : Stops c []
  other : {y : ℕ} {ys : List ℕ} → eqb y c ≡ false → Stops c (y ∷ ys)

module _ (c : ℕ) (l : is_letter c ≡ true) where
  joins_letter : (y : ℕ) → joins c y ≡ eqb y c
  unfolding joins
  joins_letter y = rw (letter_no_digit c l, l)

  letter_run : (n : ℕ) (rest : List ℕ) → Stops c rest → runs (replicate (suc n) c ++ rest) ≡ replicate (suc n) c ∷ runs rest
  unfolding runs into
  letter_run zero [] end = refl
  letter_run zero (y ∷ ys) (other e) = let f = front y (runs ys) in rw f.is (rw (joins_letter y, e))
  letter_run (suc n) rest s = ap (into c) (letter_run n rest s) ∙ rw (joins_letter c, eq-eqb c c refl)

  letter_item : (n : ℕ) → item_of (replicate (suc n) c) ≡ Letters c (suc n)
  unfolding item_of
  letter_item n = rw (letter_no_digit c l, l, length-replicate n c)

  heard_letters : (s : Option Tone) (n : ℕ) (rest : List ℕ) → Stops c rest
      → heard s (run_items (replicate (suc n) c ++ rest)) ≡ heard (begun s (pitch_of c (suc n))) (run_items rest)
  unfolding heard items_of
  heard_letters s n rest h = ap (λ (rs : List (List ℕ)). heard s (items_of rs)) (letter_run n rest h) ∙ rw (letter_item n)

module _ (s : Option Tone) (b : ℕ) where
  -- digits are not heard, alone or in a run
  heard_digit : (xs : List ℕ) → is_digit b ≡ true → heard s (run_items (b ∷ xs)) ≡ heard s (run_items xs)
  unfolding items_of runs into joins
  heard_digit [] d = heard_number s (b ∷ []) [] d
  heard_digit (y ∷ ys) d = let f = front y (runs ys) in rw f.is (go f.run f.others (is_digit y) refl)
    where
      go : (r : List ℕ) (rs : List (List ℕ)) (t : Bool) → is_digit y ≡ t
          → heard s (items_of (into b ((y ∷ r) ∷ rs))) ≡ heard s (items_of ((y ∷ r) ∷ rs))
      go r rs true e = rw (d, e) (heard_number s (b ∷ y ∷ r) (items_of rs) d ∙ sym (heard_number s (y ∷ r) (items_of rs) e))
      go r rs false e = rw (d, e) (heard_number s (b ∷ []) (items_of ((y ∷ r) ∷ rs)) d)

  heard_mark : (xs : List ℕ) → is_digit b ≡ false → is_letter b ≡ false → eqb b 32 ≡ false
      → heard s (run_items (b ∷ xs)) ≡ heard (signed s b) (run_items xs)
  unfolding heard items_of item_of
  heard_mark xs d l n = ap (λ (rs : List (List ℕ)). heard s (items_of rs)) (alone b xs d l) ∙ rw (d, l, n)

heard_blank : (s : Option Tone) (xs : List ℕ) → heard s (run_items (32 ∷ xs)) ≡ given s ++ heard None (run_items xs)
unfolding heard items_of item_of is_letter within
heard_blank s xs = ap (λ (rs : List (List ℕ)). heard s (items_of rs)) (alone 32 xs refl refl)

-- ---- bytes that say nothing of a pitch, and signs
-- a byte that fails a test is none that passes it
differs : (f : ℕ → Bool) (b x : ℕ) → f b ≡ false → f x ≡ true → eqb b x ≡ false
differs f b x n y = go (eqb b x) refl
  where
    go : (t : Bool) → eqb b x ≡ t → t ≡ false
    go true e = let same : b ≡ x = eqb-true b x e in let both : f b ≡ f x = ap f same in absurd cc
    go false e = refl

-- the letters of the steps are bytes of a pitch
letter_of_pitch : (b : ℕ) → is_letter b ≡ true → of_pitch b ≡ true
unfolding of_pitch contains is_letter
letter_of_pitch b e = go (within 97 103 b) refl
  where
    go : (t : Bool) → within 97 103 b ≡ t → of_pitch b ≡ true
    go true p = is_true (of_pitch b) (seven of_pitch 97 tt b p)
    go false p = is_true (of_pitch b) (seven of_pitch 65 tt b (rw p at e))

no_letter : (b : ℕ) → of_pitch b ≡ false → is_letter b ≡ false
no_letter b n = go (is_letter b) refl
  where
    go : (t : Bool) → is_letter b ≡ t → t ≡ false
    go true e = let y = letter_of_pitch b e in absurd cc
    go false e = refl

-- the signs of accidentals
is_sign : ℕ → Bool
is_sign b = eqb b 35 || (eqb b 45 || eqb b 110)

-- a test that the three signs fail
sign_fails : (f : ℕ → Bool) → f 35 ≡ false → f 45 ≡ false → f 110 ≡ false → (b : ℕ) → is_sign b ≡ true → f b ≡ false
unfolding is_sign
sign_fails f p q r b h = go (eqb b 35) (eqb b 45) (eqb b 110) refl refl refl h
  where
    go : (x y z : Bool) → eqb b 35 ≡ x → eqb b 45 ≡ y → eqb b 110 ≡ z → (x || (y || z)) ≡ true → f b ≡ false
    go true y z u v w h = rw (eqb-true b 35 u) p
    go false true z u v w h = rw (eqb-true b 45 v) q
    go false false true u v w h = rw (eqb-true b 110 w) r
    go false false false u v w h = absurd cc

-- bytes, and the signs among them
data Around : List ℕ → List ℕ → Type 0 where
  none : Around [] []
  aside : {b : ℕ} {bs ss : List ℕ} → of_pitch b ≡ false → Around bs ss → Around (b ∷ bs) ss
  sign : {b : ℕ} {bs ss : List ℕ} → is_sign b ≡ true → Around bs ss → Around (b ∷ bs) (b ∷ ss)

around_one : (b : ℕ) {bs ss : List ℕ} (t : Bool) → of_pitch b ≡ t → (list_all is_sign ss ≡ true → Around bs ss)
    → list_all is_sign (cond t (b ∷ ss) ss) ≡ true → Around (b ∷ bs) (cond t (b ∷ ss) ss)
around_one b {ss} true e ih h = let both = and_parts (is_sign b) (list_all is_sign ss) h in sign both.0 (ih both.1)
around_one b false e ih h = aside e (ih h)

around : (bs : List ℕ) → list_all is_sign (filter of_pitch bs) ≡ true → Around bs (filter of_pitch bs)
around [] h = none
around (b ∷ bs) h = around_one b (of_pitch b) refl (around bs) h

repeated : (b k : ℕ) → is_sign b ≡ true → list_all is_sign (replicate k b) ≡ true
repeated b zero h = refl
repeated b (suc k) h = rw h (repeated b k h)

written_signs : (a : Accidental) → list_all is_sign (written a) ≡ true
unfolding written is_sign
written_signs (sharp k) = repeated 35 k refl
written_signs (flat k) = repeated 45 k refl
written_signs natural = refl

aside_altered : (a b : ℕ) → of_pitch b ≡ false → altered_by a b ≡ a
unfolding altered_by of_pitch contains
aside_altered a b n = rw (differs of_pitch b 35 n refl, differs of_pitch b 45 n refl, differs of_pitch b 110 n refl)

signed_aside : (s : Option Tone) (b : ℕ) → of_pitch b ≡ false → signed s b ≡ s
signed_aside None b n = refl
signed_aside (Some t) b n = rw (aside_altered t.alter b n)

heard_aside : (s : Option Tone) (b : ℕ) (xs : List ℕ) → of_pitch b ≡ false → heard s (run_items (b ∷ xs)) ≡ heard s (run_items xs)
unfolding of_pitch contains
heard_aside s b xs n = go (is_digit b) refl
  where
    go : (t : Bool) → is_digit b ≡ t → heard s (run_items (b ∷ xs)) ≡ heard s (run_items xs)
    go true d = heard_digit s b xs d
    go false d =
        heard_mark s b xs d (no_letter b n) (differs of_pitch b 32 n refl)
        ∙ ap (λ (u : Option Tone). heard u (run_items xs)) (signed_aside s b n)

heard_sign : (s : Option Tone) (b : ℕ) (xs : List ℕ) → is_sign b ≡ true
    → heard s (run_items (b ∷ xs)) ≡ heard (signed s b) (run_items xs)
unfolding is_letter within
heard_sign s b xs h =
    heard_mark s b xs (sign_fails is_digit refl refl refl b h) (sign_fails is_letter refl refl refl b h)
    (sign_fails (λ x. eqb x 32) refl refl refl b h)

all_signed : Option Tone → List ℕ → Option Tone
all_signed s [] = s
all_signed s (b ∷ bs) = all_signed (signed s b) bs

heard_around : (s : Option Tone) {bs ss : List ℕ} → Around bs ss → (rest : List ℕ)
    → heard s (run_items (bs ++ rest)) ≡ heard (all_signed s ss) (run_items rest)
unfolding all_signed
heard_around s none rest = refl
heard_around s (aside {b} {bs} n a) rest = heard_aside s b (bs ++ rest) n ∙ heard_around s a rest
heard_around s (sign {b} {bs} h a) rest = heard_sign s b (bs ++ rest) h ∙ heard_around (signed s b) a rest

-- ---- one note
letter_is : (c : Case) (s : Step) → is_letter (letter_of c s) ≡ true
unfolding is_letter within letter_of
letter_is lower C = refl
letter_is lower D = refl
letter_is lower E = refl
letter_is lower F = refl
letter_is lower G = refl
letter_is lower A = refl
letter_is lower B = refl
letter_is upper C = refl
letter_is upper D = refl
letter_is upper E = refl
letter_is upper F = refl
letter_is upper G = refl
letter_is upper A = refl
letter_is upper B = refl

flipped : (a b : ℕ) → eqb a b ≡ false → eqb b a ≡ false
flipped a b e = ne_eqb b a (λ q. eqb-false a b e (sym q))

stops_around : (c : ℕ) → is_letter c ≡ true → {bs ss rest : List ℕ} → Around bs ss → Stops c rest → Stops c (bs ++ rest)
unfolding is_letter within
stops_around c l none e = e
stops_around c l (aside {b} n a) e = other (differs is_letter b c (no_letter b n) l)
stops_around c l (sign {b} h a) e = other (differs is_letter b c (sign_fails is_letter refl refl refl b h) l)

-- what is heard of it
heard_of : SubToken → Option Tone
heard_of s = all_signed (begun None (pitch_of (letter_of s.case s.step) (suc s.repetitions))) (written s.accidental)

silent : (bs : List ℕ) → all_signed None bs ≡ None
unfolding all_signed
silent [] = refl
silent (b ∷ bs) = silent bs

toned : (t : Tone) (bs : List ℕ)
    → all_signed (Some t) bs ≡ Some (record { step = t.step; octave = t.octave; alter = signs t.alter bs })
unfolding all_signed signs
toned t [] = refl
toned t (b ∷ bs) = toned (record { step = t.step; octave = t.octave; alter = altered_by t.alter b }) bs

module _ (s : SubToken) where
  before_around : Around s.before []
  before_around = let p = s.no_pitch_before in rw p at (around s.before (rw p refl))

  behind_around : Around s.behind (written s.accidental)
  behind_around = let p = s.accidental_behind in rw p at (around s.behind (rw p (written_signs s.accidental)))

  -- its octave, step and alteration are the reference's
  heard_is : given (heard_of s) ≡ tone_at s (octave_number (octave_of s.case s.repetitions))
  unfolding heard_of
  heard_is = go (octave_number (octave_of s.case s.repetitions)) refl
    where
      go : (o : Option ℕ) → octave_number (octave_of s.case s.repetitions) ≡ o → given (heard_of s) ≡ tone_at s o
      go None e = rw (outside s.case s.step s.repetitions (unnumbered (octave_of s.case s.repetitions) e)) (rw silent refl)
      go (Some n) e =
          let at = numbered (octave_of s.case s.repetitions) n e in
          rw (inside s.case s.step s.repetitions n at.0 at.1) (rw (toned, altered) refl)

  heard_note : (rest : List ℕ) → ((c : ℕ) → is_letter c ≡ true → Stops c rest)
      → heard None (run_items (bytes_of s ++ rest)) ≡ heard (heard_of s) (run_items rest)
  unfolding bytes_of heard_of all_signed
  heard_note rest stops =
      let c = letter_of s.case s.step in
      let l = letter_is s.case s.step in
      let run = replicate (suc s.repetitions) c in
      let moved : (s.before ++ (run ++ s.behind)) ++ rest ≡ s.before ++ (run ++ (s.behind ++ rest)) = simp append_assoc in
      ap (λ (xs : List ℕ). heard None (run_items xs)) moved ∙ heard_around None before_around (run ++ (s.behind ++ rest))
      ∙ heard_letters c l None s.repetitions (s.behind ++ rest) (stops_around c l behind_around (stops c l))
      ∙ heard_around (begun None (pitch_of c (suc s.repetitions))) behind_around rest

-- ---- the notes of a token
heard_notes : (subs : List SubToken) → heard None (run_items (token_of subs)) ≡ reference_tones subs
unfolding heard items_of runs token_of reference_tones is_letter within
heard_notes [] = refl
heard_notes (s ∷ []) =
    ap (λ (xs : List ℕ). heard None (run_items xs)) (sym (append-nil (bytes_of s))) ∙ heard_note s [] (λ c l. end) ∙ heard_is s
    ∙ sym (append-nil (tone_at s (octave_number (octave_of s.case s.repetitions))))
heard_notes (s ∷ t ∷ ss) =
    heard_note s (32 ∷ token_of (t ∷ ss)) (λ c l. other (differs is_letter 32 c refl l))
    ∙ heard_blank (heard_of s) (token_of (t ∷ ss))
    ∙ ap₂ (λ (x y : List Tone). x ++ y) (heard_is s) (heard_notes (t ∷ ss))

-- ---- a token of notes is no rest
-- whether `r` is not among the marks of items
abbrev Sounds : List Item → Type 0
Sounds is = contains 114 (marks is) ≡ false

module _ (is : List Item) where
  sounds_behind : (i : Item) → Sounds (i ∷ is) → Sounds is
  unfolding marks contains
  sounds_behind (Digits v) h = h
  sounds_behind (Ratio v) h = h
  sounds_behind (Letters c n) h = h
  sounds_behind Blank h = h
  sounds_behind (Mark b) h = (or_parts (eqb b 114) (contains 114 (marks is)) h).1

  sounds_length : (r : List ℕ) → Sounds is → Sounds (length_item r ∷ is)
  unfolding marks contains
  sounds_length r h = go (is_ratio r)
    where
      go : (t : Bool) → Sounds (cond t (Ratio (spelled_value r)) (Digits (spelled_value r)) ∷ is)
      go true = h
      go false = h

  sounds_item : (x : ℕ) (r : List ℕ) → eqb x 114 ≡ false → Sounds is → Sounds (item_of (x ∷ r) ∷ is)
  unfolding marks contains item_of
  sounds_item x r e h = go (is_digit x) (is_letter x) (eqb x 32)
    where
      go : (d l b : Bool) → Sounds (cond d (length_item (x ∷ r)) (cond l (Letters x (suc (length r))) (cond b Blank (Mark x))) ∷ is)
      go true l b = sounds_length (x ∷ r) h
      go false true b = h
      go false false true = h
      go false false false = rw (e, h)

  sounds_number : (r : List ℕ) → is_number r ≡ true → Sounds is → Sounds (item_of r ∷ is)
  unfolding item_of within
  sounds_number [] d h = cc
  sounds_number (x ∷ r) d h = rw d (sounds_length (x ∷ r) h)

  sounds_on : (i : Item) (js : List Item) → Sounds (i ∷ js) → Sounds is → Sounds (i ∷ is)
  unfolding marks contains
  sounds_on (Digits v) js k h = h
  sounds_on (Ratio v) js k h = h
  sounds_on (Letters c n) js k h = h
  sounds_on Blank js k h = h
  sounds_on (Mark b) js k h = rw ((or_parts (eqb b 114) (contains 114 (marks js)) k).0, h)

sounds_into : (x : ℕ) (rs : List (List ℕ)) → eqb x 114 ≡ false → Sounds (items_of rs) → Sounds (items_of (into x rs))
unfolding items_of into
sounds_into x [] e h = sounds_item [] x [] e h
sounds_into x ([] ∷ rs) e h = sounds_item (items_of rs) x [] e (sounds_behind (items_of rs) (item_of []) h)
sounds_into x ((y ∷ r) ∷ rs) e h = go (joins x y)
  where
    go : (t : Bool) → Sounds (items_of (cond t ((x ∷ y ∷ r) ∷ rs) ((x ∷ []) ∷ (y ∷ r) ∷ rs)))
    go true = sounds_item (items_of rs) x (y ∷ r) e (sounds_behind (items_of rs) (item_of (y ∷ r)) h)
    go false = sounds_item (items_of ((y ∷ r) ∷ rs)) x [] e h

sounds : (xs : List ℕ) → contains 114 xs ≡ false → Sounds (run_items xs)
unfolding items_of runs contains marks
sounds [] h = refl
sounds (x ∷ xs) h = let both = or_parts (eqb x 114) (contains 114 xs) h in sounds_into x (runs xs) both.0 (sounds xs both.1)

sounds_pieces : (rs : List (List ℕ)) → Sounds (items_of rs) → Sounds (items_of (pieces rs))
unfolding items_of pieces
sounds_pieces [] h = h
sounds_pieces (r ∷ []) h = h
sounds_pieces (r ∷ p ∷ []) h = h
sounds_pieces (r ∷ p ∷ q ∷ rs) h = go (is_number r && is_percent p && is_number q) refl (sounds_pieces rs) (sounds_pieces (p ∷ q ∷ rs))
  where
    behind : Sounds (items_of (p ∷ q ∷ rs))
    behind = sounds_behind (items_of (p ∷ q ∷ rs)) (item_of r) h

    go : (t : Bool) → (is_number r && is_percent p && is_number q) ≡ t → (Sounds (items_of rs) → Sounds (items_of (pieces rs)))
        → (Sounds (items_of (p ∷ q ∷ rs)) → Sounds (items_of (pieces (p ∷ q ∷ rs))))
        → Sounds (items_of (cond t ((r ++ (p ++ q)) ∷ pieces rs) (r ∷ pieces (p ∷ q ∷ rs))))
    go true e k l =
        sounds_number (items_of (pieces rs)) (r ++ (p ++ q)) (number_append r (p ++ q) (three r p q e).first)
        (k (sounds_behind (items_of rs) (item_of q) (sounds_behind (items_of (q ∷ rs)) (item_of p) behind)))
    go false e k l = sounds_on (items_of (pieces (p ∷ q ∷ rs))) (item_of r) _ h (l behind)

sounds_up : (is : List Item) → Sounds is → Sounds (up_to_blank is)
unfolding up_to_blank marks contains
sounds_up [] h = h
sounds_up (Digits v ∷ is) h = sounds_up is h
sounds_up (Ratio v ∷ is) h = sounds_up is h
sounds_up (Letters c n ∷ is) h = sounds_up is h
sounds_up (Blank ∷ is) h = refl
sounds_up (Mark b ∷ is) h = let both = or_parts (eqb b 114) (contains 114 (marks is)) h in rw (both.0, sounds_up is both.1)

no_rest : (is : List Item) → Sounds is → rest_of is ≡ false
unfolding rest_of first_sub up_to_blank marks contains
no_rest [] h = h
no_rest (Digits v ∷ is) h = sounds_up is h
no_rest (Ratio v ∷ is) h = sounds_up is h
no_rest (Letters c n ∷ is) h = sounds_up is h
no_rest (Blank ∷ is) h = no_rest is h
no_rest (Mark b ∷ is) h = let both = or_parts (eqb b 114) (contains 114 (marks is)) h in rw (both.0, sounds_up is both.1)

contains_append : (b : ℕ) (xs ys : List ℕ) → contains b xs ≡ false → contains b ys ≡ false → contains b (xs ++ ys) ≡ false
unfolding contains
contains_append b [] ys p q = q
contains_append b (x ∷ xs) ys p q =
    let both = or_parts (eqb x b) (contains b xs) p in
    rw (both.0, contains_append b xs ys both.1 q)

no_r_around : {bs ss : List ℕ} → Around bs ss → contains 114 bs ≡ false
unfolding contains of_pitch
no_r_around none = refl
no_r_around (aside {b} n a) = rw (differs of_pitch b 114 n refl, no_r_around a)
no_r_around (sign {b} h a) = rw (sign_fails (λ x. eqb x 114) refl refl refl b h, no_r_around a)

no_r_repeated : (b n : ℕ) → eqb b 114 ≡ false → contains 114 (replicate n b) ≡ false
unfolding contains
no_r_repeated b zero e = refl
no_r_repeated b (suc n) e = rw (e, no_r_repeated b n e)

no_r_note : (s : SubToken) → contains 114 (bytes_of s) ≡ false
unfolding bytes_of is_letter within
no_r_note s =
    let c = letter_of s.case s.step in
    let run = replicate (suc s.repetitions) c in
    let other = flipped 114 c (differs is_letter 114 c refl (letter_is s.case s.step)) in
    contains_append 114 s.before (run ++ s.behind) (no_r_around (before_around s))
    (contains_append 114 run s.behind (no_r_repeated c (suc s.repetitions) other) (no_r_around (behind_around s)))

no_r : (subs : List SubToken) → contains 114 (token_of subs) ≡ false
unfolding token_of contains
no_r [] = refl
no_r (s ∷ []) = no_r_note s
no_r (s ∷ t ∷ ss) = contains_append 114 (bytes_of s) (32 ∷ token_of (t ∷ ss)) (no_r_note s) (no_r (t ∷ ss))

-- the pitches of a token's note are the reference's, one for each sub-token whose octave is one of 0 to 9, in order
pub token_agrees : (subs : List SubToken) → note_pitches (token_of subs) ≡ reference_tones subs
token_agrees subs =
    rw (no_rest (items (token_of subs)) (sounds_pieces (runs (token_of subs)) (sounds (token_of subs) (no_r subs))))
    (heard_pieces (runs (token_of subs)) None ∙ heard_notes subs)
