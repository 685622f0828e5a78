-- What the reading makes of a token is what the text says: a note where it says so, of the same length.
use mathlib.Core.Path.{◌≡◌, refl, sym, ap, subst, ◌∙◌}
use mathlib.Core.Logic.{◌↔◌}
use Prim.Native.Nat.{ℕ, suc, ◌*◌, ◌^◌, ◌≤◌}
use native.Mathlib.Omega.{arith}
use mathlib.Core.List.{List, [], ◌∷◌}
use mathlib.Core.Bool.{Bool, true, false, cond, not, ◌&&◌, ◌||◌}
use lib.Dec.{eqb, leb, ltb}
use lib.ListN.{length, get_or}
use borrow.Author.Tests.{eqb-true, eqb-false, le-leb, lt-ltb, le-ltb}
use Rattle.slices.specs.Compare.{same_bytes}
use Rattle.slices.proofs.TestLaws.{clash}
use Rattle.duration.specs.Duration.{number, counts, written, duration_of}
use Rattle.duration.specs.Length.{Fraction, ◌over◌, SameLength, note_length}
use Rattle.duration.specs.Reciprocal.{dotted}
use Rattle.duration.specs.Ratio.{smallest_of, reduced_at, ratio_at, ratio_of, ratio_value, is_ratio, before_percent, behind_percent, spelled_value, spelled_length}
use Rattle.duration.specs.declared.Value.{Value}
use Rattle.duration.specs.declared.Value.TheVariants.{Plain, Tuplet}
use Rattle.std.specs.Prelude.{Option, Some, None, Ok, Err}
use Rattle.duration.proofs.Lengths.{grace_length}
use Rattle.duration.proofs.Numbers.{number_decimal}
use Rattle.duration.proofs.Kept.{counts_worth}
use Rattle.duration.proofs.Ratios.{one_to_one}
use Rattle.duration.proofs.Spelled.{plain_spelled, tuplet_spelled}
use Rattle.duration.proofs.RatioTerms.{RatioSaid, digits_said}
use Rattle.items.specs.Items.{is_digit, is_letter, pieces_of, length_item, item_of, items_of, items}
use Rattle.items.specs.declared.Item.{Item}
use Rattle.items.specs.declared.Item.TheVariants.{Digits, Ratio, Letters, Blank, Mark}
use Rattle.token.specs.Token.{is_blank, is_bad, given_by, up_to_blank, first_sub, given_in, is_silent, dots_of, rest_of, pitches_of, articulations_of}
use Rattle.token.specs.Scan.{scan_items, scan_of}
use Rattle.token.specs.Outcome.{Outcome, note_of, by_value, noted, from_peers, without_digits, by_given, measured, outcome_of, read_token, note_pitches}
use Rattle.token.specs.Account.{digits_in, first_digits, reciprocal_counts, tuplet_fits, ratio_counts, has_value, or_peers, has_length, is_grace, is_note, account_length}
use Rattle.token.specs.declared.scan.Scan.{Scan}
use Rattle.token.specs.declared.scan.Given.{Given}
use Rattle.token.specs.declared.scan.Given.TheVariants.{Nothing, NoValue, Length}
use Rattle.token.specs.declared.pitches.Tone.{Tone}
use Rattle.token.specs.declared.outcome.Note.{Note}
use Rattle.token.specs.declared.outcome.Unread.{Unread}
use Rattle.token.specs.declared.outcome.Unread.TheVariants.{BadLength, NoPitch, BadReciprocal, NoLength}

-- ---- the length of the first sub-token, as it is spelled and as its value
abbrev value_of : List ℕ → Given
value_of [] = Nothing
value_of (x ∷ xs) = given_by (spelled_value (x ∷ xs))

-- a piece by its kind
data Kind (r : List ℕ) : Type 0 where
  digits : {x : ℕ} {xs : List ℕ} → r ≡ x ∷ xs → is_digit x ≡ true → item_of r ≡ length_item r → Kind r
  blank : item_of r ≡ Blank → Kind r
  letters : {c n : ℕ} → is_digit (get_or r 0 0) ≡ false → item_of r ≡ Letters c n → Kind r
  mark : {b : ℕ} → is_digit (get_or r 0 0) ≡ false → item_of r ≡ Mark b → Kind r

kind : (r : List ℕ) → Kind r
unfolding item_of
kind [] = blank refl
kind (x ∷ xs) = go (is_digit x) (is_letter x) (eqb x 32) refl refl refl
  where
    go : (d l b : Bool) → is_digit x ≡ d → is_letter x ≡ l → eqb x 32 ≡ b → Kind (x ∷ xs)
    go true l b p q s = digits refl p (rw p)
    go false true b p q s = letters {c = x} {n = suc (length xs)} p (rw (p, q))
    go false false true p q s = blank (rw (p, q, s))
    go false false false p q s = mark {b = x} p (rw (p, q, s))

no_blank : (r : List ℕ) → is_blank (length_item r) ≡ false
no_blank r = go (is_ratio r)
  where
    go : (t : Bool) → is_blank (cond t (Ratio (spelled_value r)) (Digits (spelled_value r))) ≡ false
    go true = refl
    go false = refl

given_length : (r : List ℕ) (is : List Item) → given_in (length_item r ∷ is) ≡ given_by (spelled_value r)
unfolding given_in
given_length r is = go (is_ratio r)
  where
    go : (t : Bool) → given_in (cond t (Ratio (spelled_value r)) (Digits (spelled_value r)) ∷ is) ≡ given_by (spelled_value r)
    go true = refl
    go false = refl

digits_in_lem : (rs : List (List ℕ)) → given_in (up_to_blank (items_of rs)) ≡ value_of (digits_in rs)
unfolding items_of up_to_blank given_in digits_in
digits_in_lem [] = refl
digits_in_lem (r ∷ rs) = go (kind r) (digits_in_lem rs)
  where
    go : Kind r → given_in (up_to_blank (items_of rs)) ≡ value_of (digits_in rs)
        → given_in (cond (is_blank (item_of r)) [] (item_of r ∷ up_to_blank (items_of rs)))
        ≡ value_of (cond (is_blank (item_of r)) [] (cond (is_digit (get_or r 0 0)) r (digits_in rs)))
    go (digits p q e) ih = rw (e, no_blank r) (given_length r (up_to_blank (items_of rs)) ∙ rw (p, q))
    go (blank e) ih = rw e
    go (letters q e) ih = rw (e, q) ih
    go (mark q e) ih = rw (e, q) ih

pub first_digits_lem : (rs : List (List ℕ)) → given_in (first_sub (items_of rs)) ≡ value_of (first_digits rs)
unfolding items_of first_sub up_to_blank first_digits given_in
first_digits_lem [] = refl
first_digits_lem (r ∷ rs) = go (is_blank (item_of r)) refl (first_digits_lem rs)
  where
    go : (t : Bool) → is_blank (item_of r) ≡ t → given_in (first_sub (items_of rs)) ≡ value_of (first_digits rs)
        → given_in (cond t (first_sub (items_of rs)) (item_of r ∷ up_to_blank (items_of rs))) ≡ value_of (cond t (first_digits rs) (digits_in (r ∷ rs)))
    go true e ih = ih
    go false e ih = rw e at (digits_in_lem (r ∷ rs))

-- ---- whether it is a note
abbrev is_value : Option Value → Bool
is_value None = false
is_value (Some v) = true

-- a ratio has a value by the account's tests: 1 to 1 always fits
ratio_fits : (n m : List ℕ) → eqb (4 * number n) (number m * 2 ^ smallest_of 9 (number n) (number m)) ≡ true → counts n ≡ true → tuplet_fits (number n) (number m) ≡ true
unfolding tuplet_fits
ratio_fits n m e c =
    let w = counts_worth n c in
    le-leb _ _ (one_to_one (4 * number n) (number m * 2 ^ smallest_of 9 (number n) (number m)) (omega (arith, w.low, number_decimal n)) (eqb-true _ _ e))

ratio_has : (n m : List ℕ) → is_value (ratio_value n m) ≡ ratio_counts n m
unfolding ratio_value ratio_of ratio_at reduced_at ratio_counts tuplet_fits
ratio_has n m =
    go (counts n) (counts m) (leb (number m) (4 * number n)) (eqb (4 * number n) (number m * 2 ^ smallest_of 9 (number n) (number m))) (tuplet_fits (number n) (number m)) (ratio_fits n m) _ _
  where
    go : (a b c d e : Bool) → (d ≡ true → a ≡ true → e ≡ true) → (x y : Value)
        → is_value (cond (a && b) (cond c (cond d (Some x) (cond e (Some y) None)) None) None) ≡ (a && (b && (c && e)))
    go false b c d e h x y = refl
    go true false c d e h x y = refl
    go true true false d e h x y = refl
    go true true true true e h x y = sym (h refl refl)
    go true true true false true h x y = refl
    go true true true false false h x y = refl

reciprocal_has : (s : List ℕ) → is_value (duration_of s) ≡ reciprocal_counts s
unfolding duration_of reciprocal_counts
reciprocal_has s = go (same_bytes (48 ∷ []) s) (same_bytes (48 ∷ 48 ∷ []) s) (counts s)
  where
    go : (a b c : Bool) → is_value (cond a (Some (Plain 1)) (cond b (Some (Plain 0)) (cond c (Some (written (number s))) None))) ≡ (a || (b || c))
    go true b c = refl
    go false true c = refl
    go false false true = refl
    go false false false = refl

has_value_lem : (s : List ℕ) → is_value (spelled_value s) ≡ has_value s
unfolding spelled_value has_value
has_value_lem s = go (is_ratio s)
  where
    go : (t : Bool) → is_value (cond t (ratio_value (before_percent s) (behind_percent s)) (duration_of s)) ≡ cond t (ratio_counts (before_percent s) (behind_percent s)) (reciprocal_counts s)
    go true = ratio_has (before_percent s) (behind_percent s)
    go false = reciprocal_has s

-- "n%m .. lasts m/n": a ratio has a value exactly where the request says so, in its words alone
value_there : (r : Option Value) → is_value r ≡ true → r ≡ None → ⊥
value_there None e f = clash cc
value_there (Some v) e f = clash cc

there_value : (r : Option Value) → (r ≡ None → ⊥) → is_value r ≡ true
there_value None h = absurd (h refl)
there_value (Some v) h = refl

pub ratio_has_value : (s : List ℕ) → is_ratio s ≡ true → (has_value s ≡ true) ↔ RatioSaid (before_percent s) (behind_percent s)
unfolding has_value
ratio_has_value s e = rw e (to, from)
  where
    n : List ℕ
    n = before_percent s

    m : List ℕ
    m = behind_percent s

    to : ratio_counts n m ≡ true → RatioSaid n m
    to h = (digits_said n m).0 (value_there (ratio_value n m) (ratio_has n m ∙ h))

    from : RatioSaid n m → ratio_counts n m ≡ true
    from r = sym (ratio_has n m) ∙ there_value (ratio_value n m) ((digits_said n m).1 r)

abbrev pub is_heard : Outcome → Bool
is_heard (Ok None) = false
is_heard (Err why) = false
is_heard (Ok (Some n)) = true

heard_value : (why : Unread) (i : Bool) (v : Option Value) (s : Scan) → is_heard (by_value why i v s) ≡ is_value v
heard_value why i None s = refl
heard_value why i (Some (Plain v)) s = refl
heard_value why i (Some (Tuplet v a n)) s = refl

-- digits in the first sub-token give a note of their value
pub given_noted : (v w : Option Value) (s : Scan) → by_given (given_by v) s w ≡ noted v s
given_noted None w s = refl
given_noted (Some v) w s = refl

-- a grace, by the tests of the code and of the account
no_grace : (g : ℕ) → eqb g 0 ≡ true → ltb 0 g ≡ false
no_grace g e = let z : g ≡ 0 = eqb-true g 0 e in le-ltb 0 g (omega arith)

some_grace : (g : ℕ) → eqb g 0 ≡ false → ltb 0 g ≡ true
some_grace g e = let z : g ≡ 0 → ⊥ = eqb-false g 0 e in lt-ltb 0 g (omega arith)

heard_by : (ds peers : List ℕ) (s : Scan) → is_heard (by_given (value_of ds) s (spelled_value peers)) ≡ has_length ds (ltb 0 s.grace) peers
unfolding without_digits
heard_by [] peers s = go (eqb s.grace 0) (ltb 0 s.grace) (no_grace s.grace) (some_grace s.grace) refl
  where
    go : (t g : Bool) → (eqb s.grace 0 ≡ true → g ≡ false) → (eqb s.grace 0 ≡ false → g ≡ true) → eqb s.grace 0 ≡ t
        → is_heard (cond t (from_peers (spelled_value peers) s) (noted (Some (Plain 5)) s)) ≡ (g || has_value peers)
    go true g p q e = rw (p e) (heard_value NoLength true (spelled_value peers) s ∙ has_value_lem peers)
    go false g p q e = rw (q e)
heard_by (x ∷ xs) peers s =
    ap is_heard (given_noted (spelled_value (x ∷ xs)) (spelled_value peers) s) ∙ heard_value BadReciprocal false (spelled_value (x ∷ xs)) s ∙ has_value_lem (x ∷ xs)

heard_after : (a b c d k : Bool) (m : Outcome) → is_heard m ≡ k
    → is_heard (cond a (Ok None) (cond b (Err BadLength) (cond c m (cond d (Err NoPitch) m)))) ≡ (not a && (not b && ((c || not d) && k)))
heard_after true b c d k m e = refl
heard_after false true c d k m e = refl
heard_after false false true d k m e = e
heard_after false false false true k m e = refl
heard_after false false false false k m e = e

pub note_agrees : (token peers : List ℕ) → is_heard (read_token token peers) ≡ is_note token peers
unfolding outcome_of scan_items is_note
note_agrees token peers =
    heard_after (is_silent (items token)) (is_bad (items token)) (rest_of (items token)) (eqb (length (pitches_of (items token))) 0)
    (has_length (first_digits (pieces_of token)) (is_grace token) peers) (measured (scan_of token) (spelled_value peers))
    (ap (λ (g : Given). is_heard (by_given g (scan_of token) (spelled_value peers))) (first_digits_lem (pieces_of token))
    ∙ heard_by (first_digits (pieces_of token)) peers (scan_of token))

-- ---- how long it lasts
abbrev pub lasts : Note → Fraction
lasts n = note_length n.value n.dots n.actual n.normal (ltb 0 n.grace)

-- what holds of a note, where there is one
abbrev OfNote : (Note → Type 0) → Outcome → Type 0
OfNote P (Ok None) = Unit {0}
OfNote P (Err why) = Unit {0}
OfNote P (Ok (Some n)) = P n

after_by : (P : Note → Type 0) (a b c d : Bool) (m : Outcome) → OfNote P m
    → OfNote P (cond a (Ok None) (cond b (Err BadLength) (cond c m (cond d (Err NoPitch) m))))
after_by P true b c d m h = tt
after_by P false true c d m h = tt
after_by P false false true d m h = h
after_by P false false false true m h = tt
after_by P false false false false m h = h

after : (P : Note → Type 0) (s : Scan) (v : Option Value) → OfNote P (measured s v) → OfNote P (outcome_of s v)
unfolding outcome_of
after P s v h = after_by P s.silent s.bad s.rest (eqb s.pitches 0) (measured s v) h

module _ (ds : List ℕ) (v d a n : ℕ) (few : d ≤ 3) where
  plain_lasts : (grace : Bool) → spelled_value ds ≡ Some (Plain v)
      → SameLength (note_length v d 0 0 grace) (cond grace (0 over 1) (dotted d (spelled_length ds)))
  plain_lasts true e = rw (grace_length v d 0 0)
  plain_lasts false e = plain_spelled ds v d e few

  tuplet_lasts : (grace : Bool) → spelled_value ds ≡ Some (Tuplet v a n)
      → SameLength (note_length v d a n grace) (cond grace (0 over 1) (dotted d (spelled_length ds)))
  tuplet_lasts true e = rw (grace_length v d a n)
  tuplet_lasts false e = tuplet_spelled ds v a n d e few

-- the account's length of a token whose digits are ds
abbrev said_by : Scan → List ℕ → Fraction
said_by s ds = cond (ltb 0 s.grace) (0 over 1) (dotted s.dots (spelled_length ds))

abbrev LastsAs : Fraction → Note → Type 0
LastsAs f n = SameLength (lasts n) f

module _ (s : Scan) (few : s.dots ≤ 3) where
  value_lasts : (why : Unread) (i : Bool) (ds : List ℕ) (v : Option Value) → spelled_value ds ≡ v → OfNote (LastsAs (said_by s ds)) (by_value why i v s)
  unfolding note_of
  value_lasts why i ds None e = tt
  value_lasts why i ds (Some (Plain v)) e = plain_lasts ds v s.dots 0 0 few (ltb 0 s.grace) e
  value_lasts why i ds (Some (Tuplet v a n)) e = tuplet_lasts ds v s.dots a n few (ltb 0 s.grace) e

  grace_lasts : (ds : List ℕ) (t : Bool) → ltb 0 s.grace ≡ t → t ≡ true
      → SameLength (note_length 5 s.dots 0 0 t) (cond t (0 over 1) (dotted s.dots (spelled_length ds)))
  grace_lasts ds t e q = rw q (rw (grace_length 5 s.dots 0 0))

  by_lasts : (ds peers : List ℕ) → OfNote (LastsAs (said_by s (or_peers ds peers))) (by_given (value_of ds) s (spelled_value peers))
  unfolding without_digits note_of
  by_lasts [] peers = go (eqb s.grace 0) refl
    where
      go : (t : Bool) → eqb s.grace 0 ≡ t → OfNote (LastsAs (said_by s peers)) (cond t (from_peers (spelled_value peers) s) (noted (Some (Plain 5)) s))
      go true e = value_lasts NoLength true peers (spelled_value peers) refl
      go false e = grace_lasts peers (ltb 0 s.grace) refl (some_grace s.grace e)
  by_lasts (x ∷ xs) peers = subst (OfNote (LastsAs (said_by s (x ∷ xs)))) (sym (given_noted (spelled_value (x ∷ xs)) (spelled_value peers) s)) (value_lasts BadReciprocal false (x ∷ xs) (spelled_value (x ∷ xs)) refl)

few_dots : (is : List Item) → dots_of is ≤ 3
unfolding dots_of
few_dots is = omega arith

note_lasts : (token peers : List ℕ) → OfNote (LastsAs (account_length token peers)) (read_token token peers)
unfolding scan_items account_length
note_lasts token peers =
    after (LastsAs (account_length token peers)) (scan_of token) (spelled_value peers)
    (subst (λ (g : Given). OfNote (LastsAs (account_length token peers)) (by_given g (scan_of token) (spelled_value peers))) (sym (first_digits_lem (pieces_of token)))
    (by_lasts (scan_of token) (few_dots (items token)) (first_digits (pieces_of token)) peers))

-- its value, dots and tuplet give exactly the account's length
pub length_agrees : (token peers : List ℕ) (n : Note) → read_token token peers ≡ Ok (Some n) → SameLength (lasts n) (account_length token peers)
length_agrees token peers n e = rw e at (note_lasts token peers)

-- ---- its pitches
pub no_rest : (t : Bool) (ts : List Tone) → cond t 0 (length ts) ≡ length (cond t [] ts)
no_rest true ts = refl
no_rest false ts = refl

-- every note of a scan has the lists of the scan
module _ (P : Note → Type 0) (s : Scan) (each : (i : Bool) (v a n : ℕ) → P (note_of i v a n s)) where
  value_of_lem : (why : Unread) (i : Bool) (v : Option Value) → OfNote P (by_value why i v s)
  value_of_lem why i None = tt
  value_of_lem why i (Some (Plain v)) = each i v 0 0
  value_of_lem why i (Some (Tuplet v a n)) = each i v a n

  given_of : (g : Given) (v : Option Value) → OfNote P (by_given g s v)
  unfolding without_digits
  given_of Nothing v = go (eqb s.grace 0)
    where
      go : (t : Bool) → OfNote P (cond t (from_peers v s) (noted (Some (Plain 5)) s))
      go true = value_of_lem NoLength true v
      go false = each false 5 0 0
  given_of NoValue v = tt
  given_of (Length w) v = value_of_lem BadReciprocal false (Some w)

  outcome_of_lem : (v : Option Value) → OfNote P (outcome_of s v)
  outcome_of_lem v = after P s v (given_of s.given v)

-- the lists that belong to a note
pub record Listed (token : List ℕ) (n : Note) : Type 0 where
  pub pitches : n.pitches ≡ length (note_pitches token)
  pub articulations : n.articulations ≡ length (articulations_of (items token))

each_listed : (token : List ℕ) (i : Bool) (v a n : ℕ) → Listed token (note_of i v a n (scan_of token))
unfolding note_of scan_items
each_listed token i v a n = record { pitches = no_rest (rest_of (items token)) (pitches_of (items token)); articulations = refl }

pub heard_lists : (token : List ℕ) (v : Option Value) {n : Note} {o : Outcome} → o ≡ outcome_of (scan_of token) v → o ≡ Ok (Some n) → Listed token n
heard_lists token v e q = subst (OfNote (Listed token)) (sym e ∙ q) (outcome_of_lem (Listed token) (scan_of token) (each_listed token) v)

pub lists_agree : (token peers : List ℕ) (n : Note) → read_token token peers ≡ Ok (Some n) → Listed token n
lists_agree token peers n e = heard_lists token (spelled_value peers) refl e
