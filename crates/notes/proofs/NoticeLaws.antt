-- Notices of a token as the code leaves them.
use mathlib.Core.Path.{◌≡◌, refl, sym, ap, ◌∙◌}
use Prim.Native.Nat.{ℕ, ◌≤◌}
use mathlib.Core.List.{List, [], ◌∷◌}
use mathlib.Core.Bool.{Bool, false}
use lib.ListN.{length}
use borrow.Author.Tests.{le-ltb}
use Rattle.slices.proofs.TestLaws.{clash}
use Rattle.state.proofs.CountLaws.{same}
use Rattle.token.specs.Outcome.{reported}
use Rattle.sheet.specs.declared.Notice.{Notice}
use Rattle.sheet.specs.declared.Span.{Span}
use Rattle.reading.specs.State.{State, Result, Step, goes}
use Rattle.reading.specs.declared.Part.{Part}
use Rattle.reading.specs.Notices.{quiet, keep, notify, notify_signifiers}
use Rattle.reading.specs.Notes as notes
use Rattle.state.specs.declared.Tally.{Tally}
use Rattle.state.specs.Lay.{laid, behind}
use Rattle.state.specs.View.{state_of, Landed, going, landed}
use Rattle.state.proofs.ViewLaws.{landed_behind}
use Rattle.writing.specs.Kept.{notice_of, signifiers_notice, kept_records, after_kept}
use Rattle.writing.proofs.KeptLaws.{kept_at, kept_same, kept_notes, kept_state, kept_records_lem}
use Rattle.notes.specs.declared.Spot.{Spot}
use Rattle.notes.specs.Spot.{Noticed, inferred_notice}

-- nothing is noticed
pub noticed_none : (t : Tally) (old : List ℕ) (f : State → Result) → ((st : State) → f st ≡ quiet st) → Noticed t t old old f
unfolding laid behind
noticed_none t old f e = record {
  state = λ cells parts. ap (λ (r : Result). r.state) (e (state_of cells parts t));
  at = λ cells parts. sym (ap (λ (r : Result). behind t.at r.records) (e (state_of cells parts t)));
  out = λ cells parts. sym (ap (λ (r : Result). laid old t.at r.records) (e (state_of cells parts t)));
  same = same t;
  notes = refl;
}

-- a notice that is kept, if there are not too many
pub noticed_kept : (t : Tally) (n : Notice) (bytes old : List ℕ) (f : State → Result) → ((st : State) → f st ≡ keep n bytes st)
    → Noticed t (after_kept t n bytes) old (laid old t.at (kept_records t n bytes)) f
noticed_kept t n bytes old f e = record {
  state = λ cells parts. ap (λ (r : Result). r.state) (e (state_of cells parts t)) ∙ sym (kept_state cells parts t n bytes);
  at = λ cells parts. kept_at t n bytes ∙ ap (behind t.at) (recorded cells parts);
  out = λ cells parts. ap (laid old t.at) (recorded cells parts);
  same = kept_same t n bytes;
  notes = kept_notes t n bytes;
}
  where
    recorded : (cells : List ℕ) (parts : List Part) → kept_records t n bytes ≡ (f (state_of cells parts t)).records
    recorded cells parts = kept_records_lem cells parts t n bytes ∙ sym (ap (λ (r : Result). r.records) (e (state_of cells parts t)))

-- the code's answer and buffer, by their equations
pub noticed_by : (t : Tally) (n : Notice) (bytes old : List ℕ) (f : State → Result) {u : Tally} {new : List ℕ} → ((st : State) → f st ≡ keep n bytes st)
    → u ≡ after_kept t n bytes → new ≡ laid old t.at (kept_records t n bytes) → Noticed t u old new f
noticed_by t n bytes old f h e q = rw (e, q) (noticed_kept t n bytes old f h)

pub notify_is : (number k j : ℕ) (value : Span) (st : State) → notify number k j value st ≡ keep (notice_of number k j value) [] st
unfolding notify
notify_is number k j value st = refl

pub signify_none : (bs : List ℕ) (k j : ℕ) → length bs ≡ 0 → (st : State) → notes.signify bs k j st ≡ quiet st
signify_none [] k j e st = refl
signify_none (b ∷ bs) k j e st = cc

pub signify_some : (bs : List ℕ) (k j : ℕ) → (length bs ≡ 0 → ⊥) → (st : State) → notes.signify bs k j st ≡ keep (signifiers_notice k j bs) bs st
unfolding notify_signifiers
signify_some [] k j e st = absurd (e refl)
signify_some (b ∷ bs) k j e st = refl

-- once 1,024 notices are kept, none is
pub signify_full : (t : Tally) (old bs : List ℕ) (k j : ℕ) → 1024 ≤ t.notices → Noticed t t old old (notes.signify bs k j)
unfolding laid kept_records after_kept
signify_full t old [] k j h = noticed_none t old (notes.signify [] k j) (λ st. refl)
signify_full t old (b ∷ bs) k j h =
    noticed_by t (signifiers_notice k j (b ∷ bs)) (b ∷ bs) old (notes.signify (b ∷ bs) k j) (λ st. signify_some (b ∷ bs) k j (λ e. clash cc) st)
    (sym (rw (le-ltb t.notices 1024 h))) (sym (rw (le-ltb t.notices 1024 h)))

pub signify_as : (token bs : List ℕ) (k j : ℕ) → reported token ≡ bs → (length bs ≡ 0 → ⊥) → (st : State)
    → notes.signify (reported token) k j st ≡ keep (signifiers_notice k j bs) bs st
signify_as token bs k j e h st = ap (λ (l : List ℕ). notes.signify l k j st) e ∙ signify_some bs k j h st

pub inferred_no : (token : List ℕ) (s : Spot) {b : Bool} (t : Tally) (old : List ℕ) → b ≡ false → Noticed t t old old (inferred_notice b token s)
inferred_no token s t old e = rw e (noticed_none t old (λ (st : State). quiet st) (λ st. refl))

-- ---- notices and what comes after them
module _ {t u : Tally} {old new : List ℕ} {f : State → Result} (h : Noticed t u old new f) (cells : List ℕ) (parts : List Part) where
  pub noticed_goes : going (state_of cells parts u) u.at new ≡ landed (goes (f (state_of cells parts t))) old t.at
  noticed_goes =
      ap (λ (s : State). going s u.at new) (sym (h.state cells parts))
      ∙ ap (λ (k : ℕ). going (f (state_of cells parts t)).state k new) (h.at cells parts)
      ∙ ap (λ (o : List ℕ). going (f (state_of cells parts t)).state (behind t.at (f (state_of cells parts t)).records) o) (h.out cells parts)

  pub noticed_behind : (g : State → Step) {l : Landed} → l ≡ landed (g (state_of cells parts u)) new u.at
      → l ≡ landed (notes.behind (f (state_of cells parts t)) g) old t.at
  noticed_behind g {l} e =
      e
      ∙ ap (λ (s : State). landed (g s) new u.at) (sym (h.state cells parts))
      ∙ ap (λ (k : ℕ). landed (g (f (state_of cells parts t)).state) new k) (h.at cells parts)
      ∙ ap (λ (o : List ℕ). landed (g (f (state_of cells parts t)).state) o (behind t.at (f (state_of cells parts t)).records)) (h.out cells parts)
      ∙ sym (landed_behind (f (state_of cells parts t)) g old t.at)
