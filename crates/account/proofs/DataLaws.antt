-- Data records: the NOTEs that the reading gives play the note tokens of the record, column by column.
use Prim.Native.Nat.{ℕ, zero, suc, ◌+◌, ◌/◌, ◌%◌, ◌<◌}
use native.Mathlib.Omega.{arith}
use mathlib.Core.Bool.{Bool, true, false, cond, ◌&&◌, beq, or-true}
use mathlib.Core.List.{List, [], ◌∷◌, ◌++◌, map}
use mathlib.Core.Option.{Option, none, some}
use mathlib.Core.Path.{◌≡◌, refl, sym, ap, subst, ◌∙◌}
use lib.Dec.{eqb, ltb}
use lib.ListN.{length, set, length-set}
use Rattle.slices.proofs.TestLaws.{and_left, and_right}
use Rattle.lines.specs.Tokens.{is_null}
use Rattle.duration.specs.Length.{SameLength, note_length}
use Rattle.token.specs.Account.{is_note, account_length}
use Rattle.token.specs.Outcome.{Outcome, notice_number, read_token, reported}
use Rattle.token.specs.declared.outcome.Note.{Note}
use Rattle.std.specs.Prelude.{Some, None, Ok, Err}
use Rattle.token.proofs.AccountLaws.{is_heard, note_agrees, length_agrees}
use Rattle.paths.specs.declared.Spine.{Spine}
use Rattle.paths.specs.declared.Spine.TheVariants.{Line, Branch, Outside}
use Rattle.sheet.specs.Player.{notes_of}
use Rattle.reading.specs.State.{State, Result, Step, refused, goes, ends, part_at, with_part, with_notes}
use Rattle.reading.specs.declared.Part.{Part}
use Rattle.reading.specs.Notices.{Token, quiet, after, notify, span_of_token}
use Rattle.reading.specs.Bars.{any_noted}
use Rattle.reading.specs.Notes.{bit, flags_of, sounded, note_record, add_note, behind, by_outcome, signify, inferred_for, read_token_at, read_spine, and_then, read_tokens}
use Rattle.account.specs.Account.{Item, inferred_of, item_of, item_in, items_from}
use Rattle.account.specs.Agree.{played_length, both_end, one_more}
use Rattle.account.proofs.ResultLaws.{Adds, quiet_adds, then_adds, notify_adds, signifiers_adds}

-- ---- the grace bit of the flags

-- a test of both truth values
abbrev both : (Bool → Bool) → Bool
both f = f true && f false

both_at : (f : Bool → Bool) → both f ≡ true → (b : Bool) → f b ≡ true
both_at f e true = and_left (f true) (f false) e
both_at f e false = and_right (f true) (f false) e

beq_same : (x y : Bool) → beq x y ≡ true → x ≡ y
beq_same true true e = refl
beq_same true false e = sym e
beq_same false true e = e
beq_same false false e = refl

abbrev bit_holds : Bool → Bool → Bool → Bool → Bool → Bool → Bool → Bool
bit_holds a b c d e g s = beq (eqb ((bit a 1 + bit b 2 + bit c 4 + bit d 8 + bit e 16 + bit g 32 + bit s 64) / 32 % 2) 1) g

-- of all 128 flags
table : both (λ a. both (λ b. both (λ c. both (λ d. both (λ e. both (λ g. both (λ s. bit_holds a b c d e g s))))))) ≡ true
table = refl

bits : (a b c d e g s : Bool) → eqb ((bit a 1 + bit b 2 + bit c 4 + bit d 8 + bit e 16 + bit g 32 + bit s 64) / 32 % 2) 1 ≡ g
bits a b c d e g s =
    beq_same _ g
    (both_at (λ s. bit_holds a b c d e g s)
    (both_at (λ g. both (λ s. bit_holds a b c d e g s))
    (both_at (λ e. both (λ g. both (λ s. bit_holds a b c d e g s)))
    (both_at (λ d. both (λ e. both (λ g. both (λ s. bit_holds a b c d e g s))))
    (both_at (λ c. both (λ d. both (λ e. both (λ g. both (λ s. bit_holds a b c d e g s)))))
    (both_at (λ b. both (λ c. both (λ d. both (λ e. both (λ g. both (λ s. bit_holds a b c d e g s))))))
    (both_at (λ a. both (λ b. both (λ c. both (λ d. both (λ e. both (λ g. both (λ s. bit_holds a b c d e g s))))))) table a) b) c) d) e) g) s)

pub grace_bit : (n : Note) → eqb (flags_of n / 32 % 2) 1 ≡ ltb 0 n.grace
grace_bit n = bits n.rest n.ties n.tied n.slurs n.slurred (ltb 0 n.grace) (eqb n.grace 2)

-- ---- steps

-- what a step adds, where it doesn't refuse; a column never ends the reading
abbrev pub StepAdds : State → Step → List Item → Type 0
StepAdds st (refused n l f) items = Unit {0}
StepAdds st (goes r) items = Adds st r items
StepAdds st (ends r) items = ⊥

module _ {st : State} (is js : List Item) where
  pub behind_adds : (r : Result) (f : State → Step) → Adds st r is → StepAdds r.state (f r.state) js → StepAdds st (behind r f) (is ++ js)
  behind_adds r f a b = go (f r.state) b
    where
      go : (s : Step) → StepAdds r.state s js → StepAdds st (behind r (λ x. s)) (is ++ js)
      go (refused n l g) b = tt
      go (goes s) b = then_adds a b
      go (ends s) b = b

  then_step : (s : Step) (f : State → Step) → StepAdds st s is → ((r : Result) → Adds st r is → StepAdds r.state (f r.state) js) → StepAdds st (and_then s f) (is ++ js)
  then_step (refused n l g) f a b = tt
  then_step (goes r) f a b = behind_adds r f a (b r a)
  then_step (ends r) f a b = a

-- ---- the columns of a row

-- each column is what the text says of it: a line of its part, one of m parts, with its voice; or outside kern
module _ (part_at_text : ℕ → Option ℕ) (voice_at_text : ℕ → ℕ) (m : ℕ) where
  abbrev pub Column : ℕ → Spine → Type 0
  Column i (Line p v) = (part_at_text i ≡ some p) × (p < m) × (voice_at_text i ≡ v)
  Column i (Branch p) = ⊥
  Column i Outside = part_at_text i ≡ none

  abbrev pub Columns : ℕ → List Spine → Type 0
  Columns i [] = Unit {0}
  Columns i (s ∷ row) = Column i s × Columns (suc i) row

-- ---- one note

set_sounds : (ps : List Part) (p : ℕ) (x : Part) → x.noted ≡ true → p < length ps → any_noted (set ps p x) ≡ true
unfolding any_noted
set_sounds [] p x e l = absurd (omega arith)
set_sounds (q ∷ ps) zero x e l = rw e
set_sounds (q ∷ ps) (suc p) x e l = rw (set_sounds ps p x e (omega arith)) (or-true q.noted)

module _ (part_at_text : ℕ → Option ℕ) (voice_at_text : ℕ → ℕ) (all : List (List ℕ)) (kern : List Bool) (k bar : ℕ) where
  abbrev item_at : ℕ → ℕ → List ℕ → Item
  item_at p j t = item_of part_at_text voice_at_text all kern k bar p j t

  -- a token in a column whose voice is v, as the text says
  module _ (p v i : ℕ) (t : Token) (said : voice_at_text i ≡ v) where
    note_length_lem : (n : Note) → read_token t.bytes (inferred_of all kern i t.bytes) ≡ Ok (Some n)
        → SameLength (note_length n.value n.dots n.actual n.normal (eqb (flags_of n / 32 % 2) 1)) (account_length t.bytes (inferred_of all kern i t.bytes))
    note_length_lem n e = rw (grace_bit n) (length_agrees t.bytes (inferred_of all kern i t.bytes) n e)

    note_adds : (n : Note) (st : State) → read_token t.bytes (inferred_of all kern i t.bytes) ≡ Ok (Some n) → st.bars + 1 ≡ bar → p < length st.parts
        → Adds st (record {
          state = with_notes (with_part st p (sounded (part_at st p) v t.bytes)) (st.notes + 1);
          records = note_record p v k (i + 1) t.bytes n st ∷ [];
        }) (item_at p i t.bytes ∷ [])
    unfolding notes_of note_record played_length
    note_adds n st e b l = record {
      agree = one_more {i = item_at p i t.bytes} (record {
        part = refl;
        voice = sym said;
        bar = b;
        line = refl;
        column = refl;
        pitches = refl;
        length = note_length_lem n e;
      }) both_end;
      row = refl;
      bars = refl;
      notes = omega arith;
      noted = set_sounds st.parts p (sounded (part_at st p) v t.bytes) refl l ∙ sym (or-true (any_noted st.parts));
      size = length-set st.parts p (sounded (part_at st p) v t.bytes);
    }

    -- "20 inferred", and "at most the 100,000th"
    add_adds : (n : Note) (st : State) → read_token t.bytes (inferred_of all kern i t.bytes) ≡ Ok (Some n) → st.bars + 1 ≡ bar → p < length st.parts
        → StepAdds st (add_note p v k (i + 1) t n st) (item_at p i t.bytes ∷ [])
    unfolding add_note
    add_adds n st e b l = go (ltb st.notes 100000) (cond n.inferred (notify 20 k (i + 1) (span_of_token t) st) (quiet st)) (first n.inferred)
      where
        first : (x : Bool) → Adds st (cond x (notify 20 k (i + 1) (span_of_token t) st) (quiet st)) []
        first true = notify_adds 20 k (i + 1) (span_of_token t) st
        first false = quiet_adds st

        go : (x : Bool) (r : Result) → Adds st r [] → StepAdds st
            (cond x
            (goes
            (after r
            (λ (s : State). record {
              state = with_notes (with_part s p (sounded (part_at s p) v t.bytes)) (s.notes + 1);
              records = note_record p v k (i + 1) t.bytes n s ∷ [];
            })))
            (refused 10 k 0))
            (item_at p i t.bytes ∷ [])
        go true r a = then_adds a (note_adds n r.state e (ap (λ (m : ℕ). m + 1) a.bars ∙ b) (subst (λ (m : ℕ). p < m) (sym a.size) l))
        go false r a = tt

    outcome_adds : (o : Outcome) (st : State) → read_token t.bytes (inferred_of all kern i t.bytes) ≡ o → st.bars + 1 ≡ bar → p < length st.parts
        → StepAdds st (by_outcome o p v k (i + 1) t st) (cond (is_heard o) (item_at p i t.bytes ∷ []) [])
    outcome_adds (Ok None) st e b l = quiet_adds st
    outcome_adds (Err why) st e b l = notify_adds (notice_number why) k (i + 1) (span_of_token t) st
    outcome_adds (Ok (Some n)) st e b l = add_adds n st e b l

    signify_adds : (bytes : List ℕ) (st : State) → Adds st (signify bytes k (i + 1) st) []
    signify_adds [] st = quiet_adds st
    signify_adds (x ∷ bytes) st = signifiers_adds k (i + 1) (x ∷ bytes) st

    token_adds : (st : State) → st.bars + 1 ≡ bar → p < length st.parts
        → StepAdds st (read_token_at all kern p v k i t st) (item_in part_at_text voice_at_text all kern k bar (some p) i t.bytes)
    unfolding read_token_at inferred_for inferred_of
    token_adds st b l = go (is_null t.bytes)
      where
        inferred : List ℕ
        inferred = inferred_of all kern i t.bytes

        r : Result
        r = signify (reported t.bytes) k (i + 1) st

        a : Adds st r []
        a = signify_adds (reported t.bytes) st

        spoken : StepAdds r.state (by_outcome (read_token t.bytes inferred) p v k (i + 1) t r.state) (cond (is_note t.bytes inferred) (item_at p i t.bytes ∷ []) [])
        spoken = rw (← note_agrees t.bytes inferred)
            (outcome_adds (read_token t.bytes inferred) r.state refl (ap (λ (m : ℕ). m + 1) a.bars ∙ b) (subst (λ (m : ℕ). p < m) (sym a.size) l))

        go : (x : Bool) → StepAdds st (cond x (goes (quiet st)) (behind r (by_outcome (read_token t.bytes inferred) p v k (i + 1) t)))
            (cond x [] (cond (is_note t.bytes inferred) (item_at p i t.bytes ∷ []) []))
        go true = quiet_adds st
        go false = behind_adds [] _ r (by_outcome (read_token t.bytes inferred) p v k (i + 1) t) a spoken

  -- ---- the columns

  spine_adds : (s : Spine) (i : ℕ) (t : Token) (st : State) → st.bars + 1 ≡ bar → Column part_at_text voice_at_text (length st.parts) i s
      → StepAdds st (read_spine s all kern k i t st) (item_in part_at_text voice_at_text all kern k bar (part_at_text i) i t.bytes)
  spine_adds (Line p v) i t st b (e, l, said) = rw e (token_adds p v i t said st b l)
  spine_adds (Branch p) i t st b c = absurd c
  spine_adds Outside i t st b c = rw c (quiet_adds st)

  -- as many tokens as the row has spines
  pub tokens_add : (i : ℕ) (row : List Spine) (ts : List Token) (st : State) → length row ≡ length ts → st.bars + 1 ≡ bar
      → Columns part_at_text voice_at_text (length st.parts) i row
      → StepAdds st (read_tokens all kern k i row ts st) (items_from part_at_text voice_at_text all kern k bar i (map (λ (t : Token). t.bytes) ts))
  unfolding read_tokens items_from
  tokens_add i [] [] st z b c = quiet_adds st
  tokens_add i [] (t ∷ ts) st z b c = absurd (omega arith)
  tokens_add i (s ∷ row) [] st z b c = absurd (omega arith)
  tokens_add i (s ∷ row) (t ∷ ts) st z b (c, cs) =
      then_step _ _ (read_spine s all kern k i t st) (read_tokens all kern k (suc i) row ts) (spine_adds s i t st b c)
      (λ r a. tokens_add (suc i) row ts r.state (omega arith) (ap (λ (m : ℕ). m + 1) a.bars ∙ b)
      (subst (λ (m : ℕ). Columns part_at_text voice_at_text m (suc i) row) (sym a.size) cs))
