-- What is kept of a notice is what the reading keeps of it.
use Rattle.std.specs.Prelude.{Ok}
use mathlib.Core.Path.{◌≡◌, refl, ap, ◌∙◌}
use Prim.Native.Nat.{ℕ, ◌+◌}
use mathlib.Core.Bool.{Bool, true, false, cond}
use mathlib.Core.List.{List, [], ◌∷◌}
use lib.Dec.{ltb}
use Rattle.state.proofs.CountLaws.{same}
use Rattle.state.specs.Counts.{Same}
use Rattle.sheet.specs.Record.{Record, NOTICE}
use Rattle.sheet.specs.declared.Notice.{Notice}
use Rattle.sheet.specs.declared.Span.{Span}
use Rattle.reading.specs.State.{State, goes, with_notices}
use Rattle.reading.specs.declared.Part.{Part}
use Rattle.reading.specs.Notices.{quiet, keep, notify}
use Rattle.state.specs.declared.Tally.{Tally}
use Rattle.state.specs.Lay.{laid, behind}
use Rattle.state.specs.View.{state_of, going, landed, told}
use Rattle.writing.specs.Kept.{notice_of, counted, kept_records, after_kept}

module _ (t : Tally) (n : Notice) (bytes : List ℕ) where
  pub kept_at : (after_kept t n bytes).at ≡ behind t.at (kept_records t n bytes)
  unfolding after_kept kept_records behind
  kept_at = go (ltb t.notices 1024)
    where
      go : (b : Bool) → (cond b (counted t (behind t.at (NOTICE n bytes ∷ []))) t).at ≡ behind t.at (cond b (NOTICE n bytes ∷ []) [])
      go true = refl
      go false = refl

  pub kept_same : Same t (after_kept t n bytes)
  unfolding after_kept
  kept_same = go (ltb t.notices 1024)
    where
      go : (b : Bool) → Same t (cond b (counted t (behind t.at (NOTICE n bytes ∷ []))) t)
      go true = record { active = refl; parts = refl; bars = refl }
      go false = same t

  pub kept_notes : (after_kept t n bytes).notes ≡ t.notes
  unfolding after_kept
  kept_notes = go (ltb t.notices 1024)
    where
      go : (b : Bool) → (cond b (counted t (behind t.at (NOTICE n bytes ∷ []))) t).notes ≡ t.notes
      go true = refl
      go false = refl

module _ (cells : List ℕ) (parts : List Part) (t : Tally) (n : Notice) (bytes : List ℕ) where
  pub kept_state : state_of cells parts (after_kept t n bytes) ≡ (keep n bytes (state_of cells parts t)).state
  unfolding after_kept keep
  kept_state = go (ltb t.notices 1024)
    where
      go : (b : Bool)
          → state_of cells parts (cond b (counted t (behind t.at (NOTICE n bytes ∷ []))) t)
          ≡ (cond b (record { state = with_notices (state_of cells parts t) (t.notices + 1); records = NOTICE n bytes ∷ [] }) (quiet (state_of cells parts t))).state
      go true = refl
      go false = refl

  pub kept_records_lem : kept_records t n bytes ≡ (keep n bytes (state_of cells parts t)).records
  unfolding kept_records keep
  kept_records_lem = go (ltb t.notices 1024)
    where
      go : (b : Bool)
          → cond b (NOTICE n bytes ∷ []) []
          ≡ (cond b (record { state = with_notices (state_of cells parts t) (t.notices + 1); records = NOTICE n bytes ∷ [] }) (quiet (state_of cells parts t))).records
      go true = refl
      go false = refl

  pub kept_told : (out : List ℕ)
      → told (Ok (after_kept t n bytes)) cells parts (laid out t.at (kept_records t n bytes)) ≡ landed (goes (keep n bytes (state_of cells parts t))) out t.at
  kept_told out =
      ap (λ (s : State). going s (after_kept t n bytes).at (laid out t.at (kept_records t n bytes))) kept_state
      ∙ ap (λ (k : ℕ). going (keep n bytes (state_of cells parts t)).state k (laid out t.at (kept_records t n bytes))) (kept_at t n bytes)
      ∙ ap (λ (rs : List Record). going (keep n bytes (state_of cells parts t)).state (behind t.at rs) (laid out t.at rs)) kept_records_lem

-- the same for a notice on a line and a column
pub notify_told : (cells : List ℕ) (parts : List Part) (t : Tally) (number k column : ℕ) (value : Span) (out : List ℕ)
    → told (Ok (after_kept t (notice_of number k column value) [])) cells parts (laid out t.at (kept_records t (notice_of number k column value) []))
    ≡ landed (goes (notify number k column value (state_of cells parts t))) out t.at
unfolding notify
notify_told cells parts t number k column value out = kept_told cells parts t (notice_of number k column value) [] out
