-- The reading puts questions 1 to 12 and 17: its refusals have no other number, and 13 is the buffer's.
use Prim.Native.Nat.{ℕ, ◌+◌, ◌≤◌}
use native.Mathlib.Omega.{arith}
use mathlib.Core.Bool.{Bool, true, false, cond, ◌||◌}
use mathlib.Core.List.{List, [], ◌∷◌, ◌++◌}
use mathlib.Core.Logic.{◌⊎◌, inl, inr}
use mathlib.Core.Path.{◌≡◌, sym, subst}
use lib.Dec.{eqb, leb}
use lib.ListN.{length}
use Rattle.utf8.specs.Utf8.{utf8_length}
use Rattle.lines.specs.Lines.{lines_of, without_crs, kind_of}
use Rattle.sheet.specs.Record.{Record}
use Rattle.reading.specs.State.{State, Step, refused, goes, ends, start}
use Rattle.reading.specs.Records.{read_line}
use Rattle.reading.specs.Text.{Answer, refusal, accepted, finish, read_lines, read_text}
use Rattle.account.specs.Rows.{is_record}
use Rattle.account.proofs.LineLaws.{carry_on, read_line_lem}
use Rattle.account.proofs.RefusalLaws.{StarStopped, Asked, Stops as Refused, line_stops as line_refused}

-- a line is refused by a question of the reading, if at all
abbrev Stops : Step → Type 0
Stops (refused n m f) = Asked n
Stops (goes r) = Unit {0}
Stops (ends r) = Unit {0}

line_stops : (begun : Bool) (k offset : ℕ) (bytes : List ℕ) (st : State) → Stops (read_line begun k offset bytes st)
line_stops begun k offset bytes st = go (read_line begun k offset bytes st) (line_refused k offset bytes st begun)
  where
    go : (s : Step) → Refused k (StarStopped begun bytes st) s → Stops s
    go (refused n m f) e = e.1.0
    go (goes r) e = tt
    go (ends r) e = tt

-- ---- the whole text

-- an answer that is a refusal by such a question, if at all
abbrev Refuses : Answer → Type 0
Refuses (refusal n l f) = Asked n
Refuses (accepted parts notes rs) = Unit {0}

-- questions 11 and 12
finish_refuses : (begun : Bool) (before : List Record) (st : State) → Refuses (finish begun before st)
unfolding finish
finish_refuses begun before st = go begun (eqb st.notes 0) _ _ _
  where
    go : (a b : Bool) (parts notes : ℕ) (rs : List Record) → Refuses (cond a (cond b (refusal 12 0 0) (accepted parts notes rs)) (refusal 11 0 0))
    go true true parts notes rs = (omega arith, inl (omega arith))
    go true false parts notes rs = tt
    go false b parts notes rs = (omega arith, inl (omega arith))

carry_refuses : (begun : Bool) (k offset : ℕ) (before : List Record) (ls : List (List ℕ)) (s : Step) → Stops s
    → ((rs : List Record) (st : State) → Refuses (read_lines begun k offset rs st ls)) → Refuses (carry_on begun k offset before ls s)
carry_refuses begun k offset before ls (refused n m f) e later = e
carry_refuses begun k offset before ls (goes r) e later = later (before ++ r.records) r.state
carry_refuses begun k offset before ls (ends r) e later = finish_refuses true (before ++ r.records) r.state

lines_refuse : (begun : Bool) (k offset : ℕ) (before : List Record) (st : State) (ls : List (List ℕ)) → Refuses (read_lines begun k offset before st ls)
unfolding read_lines
lines_refuse begun k offset before st [] = finish_refuses begun before st
lines_refuse begun k offset before st (l ∷ ls) =
    let met = begun || is_record (kind_of (without_crs l)) in
    subst Refuses (sym (read_line_lem begun k offset before st l ls))
    (carry_refuses met (k + 1) (offset + length l + 1) before ls (read_line begun (k + 1) offset (without_crs l) st) (line_stops begun (k + 1) offset (without_crs l) st)
    (λ (rs : List Record) (x : State). lines_refuse met (k + 1) (offset + length l + 1) rs x ls))

-- questions 1 and 2
text_refuses : (text : List ℕ) → Refuses (read_text text)
unfolding read_text
text_refuses text = go (leb (length text) 67108864) (eqb (utf8_length text) (length text)) (read_lines false 0 0 [] start (lines_of text)) (lines_refuse false 0 0 [] start (lines_of text))
  where
    go : (a b : Bool) (r : Answer) → Refuses r → Refuses (cond a (cond b r (refusal 2 0 (utf8_length text))) (refusal 1 0 (length text)))
    go true true r e = e
    go true false r e = (omega arith, inl (omega arith))
    go false b r e = (omega arith, inl (omega arith))

-- the reading refuses by its questions 1 to 12 and 17 alone
pub refusal_number : (text : List ℕ) (n l f : ℕ) → read_text text ≡ refusal n l f → (1 ≤ n) × ((n ≤ 12) ⊎ (n ≡ 17))
refusal_number text n l f e = subst Refuses e (text_refuses text)

pub refusal_small : (text : List ℕ) (n l f : ℕ) → read_text text ≡ refusal n l f → n ≤ 17
refusal_small text n l f e = go (refusal_number text n l f e).1
  where
    go : (n ≤ 12) ⊎ (n ≡ 17) → n ≤ 17
    go (inl h) = omega arith
    go (inr h) = omega arith

pub refusal_not_13 : (text : List ℕ) (n l f : ℕ) → read_text text ≡ refusal n l f → n ≡ 13 → ⊥
refusal_not_13 text n l f e z = go (refusal_number text n l f e).1
  where
    go : (n ≤ 12) ⊎ (n ≡ 17) → ⊥
    go (inl h) = omega arith
    go (inr h) = omega arith
