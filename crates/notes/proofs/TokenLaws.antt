-- The note of a token, and what a token comes to.
use mathlib.Core.Path.{◌≡◌, refl, sym, ap, ap₂, ◌∙◌}
use Prim.Native.Nat.{ℕ, ◌+◌, ◌≤◌, ◌<◌}
use mathlib.Core.List.{List, [], ◌∷◌, ◌++◌}
use mathlib.Core.Bool.{Bool, true, false}
use lib.ListN.{length, take, set}
use borrow.Author.Tests.{lt-ltb, le-ltb}
use Rattle.state.proofs.CountLaws.{same_same}
use Rattle.state.specs.Counts.{Same}
use Rattle.lines.specs.Tokens.{is_null}
use Rattle.duration.specs.declared.Value.{Value}
use Rattle.notation.specs.Beam.{beam_number, letters_of}
use Rattle.notation.specs.declared.beam.Letters.{Letters}
use Rattle.token.specs.Scan.{scan_of}
use Rattle.token.specs.Outcome.{Outcome, notice_number, outcome_of, reported}
use Rattle.token.specs.declared.scan.Scan.{Scan}
use Rattle.token.specs.declared.outcome.Note.{Note}
use Rattle.std.specs.Prelude.{Option, Some, None, Ok, Err}
use Rattle.token.specs.declared.outcome.Unread.{Unread}
use Rattle.sheet.specs.Record.{Record}
use Rattle.sheet.specs.declared.Note.{Note as NoteWritten}
use Rattle.reading.specs.State.{State, Result, goes, part_at, with_part, with_notes}
use Rattle.reading.specs.declared.Part.{Part}
use Rattle.reading.specs.Notices.{span_of_token, quiet, notify}
use Rattle.reading.specs.Notes as notes
use Rattle.state.specs.declared.Tally.{Tally}
use Rattle.refusal.specs.declared.Refusal.{Refusal}
use Rattle.std.specs.Prelude.{Ok, Err, Result as Answered}
use Rattle.state.specs.Lay.{laid, behind}
use Rattle.state.specs.View.{state_of, Landed, stopped, going, landed}
use Rattle.state.proofs.LayLaws.{laid_append, behind_append}
use Rattle.writing.specs.Kept.{note_record}
use Rattle.plain.specs.Plain.{PlainToken}
use Rattle.plain.specs.declared.Plain.{Plain}
use Rattle.notes.specs.declared.Spot.{Spot}
use Rattle.notes.specs.Beam.{beam_by, sounded_by}
use Rattle.notes.specs.Plain.{part_before}
use Rattle.notes.specs.Spot.{token_at, token_step, note_at, with_note, Kept, Noticed, inferred_notice}
use Rattle.notes.proofs.BeamLaws.{sounded_by_lem, beam_by_lem}
use Rattle.notes.proofs.NoticeLaws.{noticed_none, signify_none, signify_full, noticed_goes, noticed_behind}

-- ---- the note
pub note_refused : (p v k j at : ℕ) (token : List ℕ) (n : Note) (st : State) (out : List ℕ) (place : ℕ) → 100000 ≤ st.notes
    → stopped 10 k 0 ≡ landed (notes.add_note p v k j (record { at = at; bytes = token }) n st) out place
unfolding notes.add_note
note_refused p v k j at token n st out place h = rw (le-ltb st.notes 100000 h)

-- the note's own result
abbrev note_result : List ℕ → Note → Spot → State → Result
note_result token n s st = record {
  state = with_notes (with_part st s.part (notes.sounded (part_at st s.part) s.voice token)) (st.notes + 1);
  records = notes.note_record s.part s.voice s.line s.column token n st ∷ [];
}

after_landed : (r : Result) (f : State → Result) (out : List ℕ) (at : ℕ)
    → landed (goes (record { state = (f r.state).state; records = r.records ++ (f r.state).records })) out at
    ≡ landed (goes (f r.state)) (laid out at r.records) (behind at r.records)
after_landed r f out at =
    ap₂ (going (f r.state).state) (behind_append r.records (f r.state).records at) (laid_append r.records (f r.state).records out at)

module _ (cells : List ℕ) (parts parts' : List Part) (token : List ℕ) (n : Note) (s : Spot) {t u w : Tally} {old mid new : List ℕ} {beam at : ℕ} {written : NoteWritten}
    (few : t.notes < 100000) (h : Noticed t u old mid (inferred_notice n.inferred token s))
    {l : Letters} (letters : l ≡ letters_of token)
    (sounds : take u.parts parts' ≡ set (take u.parts parts) s.part (sounded_by (part_before s u parts) s.voice l.starts l.ends))
    (beams : beam ≡ beam_number (beam_by (part_before s u parts) s.voice l.starts l.ends).mark)
    (is : written ≡ note_at n s u.bars beam)
    (lays : new ≡ laid mid u.at (note_record written token ∷ []))
    (ends : at ≡ behind u.at (note_record written token ∷ []))
    (counts : w ≡ with_note u at) where
  record_is : note_record written token ≡ notes.note_record s.part s.voice s.line s.column token n (state_of cells parts u)
  unfolding notes.note_record
  record_is = ap (λ (x : NoteWritten). note_record x token) (is ∙ ap (note_at n s u.bars) (beams ∙ beam_by_lem (part_before s u parts) s.voice token letters))

  state_is : state_of cells parts' w ≡ (note_result token n s (state_of cells parts u)).state
  state_is =
      ap (state_of cells parts') counts
      ∙ ap (λ (ps : List Part). record {
        row = (state_of cells parts u).row;
        parts = ps;
        bars = u.bars;
        notes = u.notes + 1;
        notices = u.notices;
        tempo = u.tempo;
        title = u.title;
        composer = u.composer;
        lyricist = u.lyricist;
      }) (sounds ∙ ap (set (take u.parts parts) s.part) (sounded_by_lem (part_before s u parts) s.voice token letters))

  place_is : w.at ≡ behind u.at (note_result token n s (state_of cells parts u)).records
  place_is = ap (λ (x : Tally). x.at) counts ∙ ends ∙ ap (λ (r : Record). behind u.at (r ∷ [])) record_is

  out_is : new ≡ laid mid u.at (note_result token n s (state_of cells parts u)).records
  out_is = lays ∙ ap (λ (r : Record). laid mid u.at (r ∷ [])) record_is

  here : going (state_of cells parts' w) w.at new ≡ landed (goes (note_result token n s (state_of cells parts u))) mid u.at
  here =
      ap (λ (x : State). going x w.at new) state_is
      ∙ ap (λ (k : ℕ). going (note_result token n s (state_of cells parts u)).state k new) place_is
      ∙ ap (going (note_result token n s (state_of cells parts u)).state (behind u.at (note_result token n s (state_of cells parts u)).records)) out_is

  pub note_added : going (state_of cells parts' w) w.at new
      ≡ landed (notes.add_note s.part s.voice s.line s.column (token_at s token) n (state_of cells parts t)) old t.at
  unfolding notes.add_note
  note_added =
      let r : Result = inferred_notice n.inferred token s (state_of cells parts t) in
      here
      ∙ ap (λ (x : State). landed (goes (note_result token n s x)) mid u.at) (sym (h.state cells parts))
      ∙ ap (landed (goes (note_result token n s r.state)) mid) (h.at cells parts)
      ∙ ap (λ (o : List ℕ). landed (goes (note_result token n s r.state)) o (behind t.at r.records)) (h.out cells parts)
      ∙ sym (after_landed r (note_result token n s) old t.at)
      ∙ sym (rw (lt-ltb t.notes 100000 few))

pub note_same : {t u w : Tally} {at : ℕ} → Same t u → w ≡ with_note u at → Same t w
note_same h e = rw e (record { active = h.active; parts = h.parts; bars = h.bars })

pub kept_same : {t u : Tally} → Same t u → (r : Answered Tally Refusal) → Kept u r → Kept t r
kept_same h (Ok w) k = same_same h k
kept_same h (Err n) k = tt

-- ---- the token
-- nothing comes of it
pub quiet_step : (st : State) (out : List ℕ) (at : ℕ) → going st at out ≡ landed (goes (quiet st)) out at
unfolding laid behind
quiet_step st out at = refl

pub null_step : (cells : List ℕ) (parts : List Part) (token out : List ℕ) (inferred : Option Value) (s : Spot) (t : Tally) {b : Bool} → b ≡ is_null token → b ≡ true
    → going (state_of cells parts t) t.at out ≡ landed (token_step token inferred s (state_of cells parts t)) out t.at
unfolding token_step laid behind
null_step cells parts token out inferred s t e q = sym (rw (sym e ∙ q))

module _ (cells : List ℕ) (parts : List Part) (token : List ℕ) (inferred : Option Value) (s : Spot) {t u : Tally} {old new : List ℕ} {b : Bool} {scan : Scan} {o : Outcome}
    (null : b ≡ is_null token) (read : b ≡ false) (scans : scan ≡ scan_of token)
    (h : Noticed t u old new (notes.signify (reported token) s.line s.column))
    (outcome : o ≡ outcome_of scan inferred) where
  token_step_lem : {l : Landed} → l ≡ landed (notes.by_outcome o s.part s.voice s.line s.column (token_at s token) (state_of cells parts u)) new u.at
      → l ≡ landed (token_step token inferred s (state_of cells parts t)) old t.at
  unfolding token_step
  token_step_lem e =
      let q : o ≡ outcome_of (scan_of token) inferred = outcome ∙ ap (λ (x : Scan). outcome_of x inferred) scans in
      noticed_behind h cells parts (notes.by_outcome (outcome_of (scan_of token) inferred) s.part s.voice s.line s.column (token_at s token))
      (e ∙ ap (λ (x : Outcome). landed (notes.by_outcome x s.part s.voice s.line s.column (token_at s token) (state_of cells parts u)) new u.at) q)
      ∙ sym (rw (sym null ∙ read))

  pub silent_step : o ≡ Ok None → going (state_of cells parts u) u.at new ≡ landed (token_step token inferred s (state_of cells parts t)) old t.at
  silent_step q =
      token_step_lem (quiet_step (state_of cells parts u) new u.at
      ∙ ap (λ (x : Outcome). landed (notes.by_outcome x s.part s.voice s.line s.column (token_at s token) (state_of cells parts u)) new u.at) (sym q))

  pub unread_step : {why : Unread} {k : ℕ} {w : Tally} {newer : List ℕ} → o ≡ Err why → k ≡ notice_number why
      → Noticed u w new newer (notify k s.line s.column (span_of_token (token_at s token)))
      → going (state_of cells parts w) w.at newer ≡ landed (token_step token inferred s (state_of cells parts t)) old t.at
  unread_step q n g =
      token_step_lem (noticed_goes g cells parts
      ∙ ap (λ (m : ℕ). landed (goes (notify m s.line s.column (span_of_token (token_at s token)) (state_of cells parts u))) new u.at) n
      ∙ ap (λ (x : Outcome). landed (notes.by_outcome x s.part s.voice s.line s.column (token_at s token) (state_of cells parts u)) new u.at) (sym q))

  pub heard_step : {n : Note} {l : Landed} → o ≡ Ok (Some n)
      → l ≡ landed (notes.add_note s.part s.voice s.line s.column (token_at s token) n (state_of cells parts u)) new u.at
      → l ≡ landed (token_step token inferred s (state_of cells parts t)) old t.at
  heard_step q e =
      token_step_lem (e
      ∙ ap (λ (x : Outcome). landed (notes.by_outcome x s.part s.voice s.line s.column (token_at s token) (state_of cells parts u)) new u.at) (sym q))

-- a token of the usual shape comes to its note, whatever length its peers give; of unknown marks no notice is kept any more
pub plain_step : (cells : List ℕ) (parts : List Part) (token : List ℕ) (inferred : Option Value) (s : Spot) (t : Tally) (old : List ℕ) {p : Plain} {l : Landed} → PlainToken token p
    → (p.unknown ≡ true → 1024 ≤ t.notices)
    → l ≡ landed (notes.add_note s.part s.voice s.line s.column (token_at s token) p.note (state_of cells parts t)) old t.at
    → l ≡ landed (token_step token inferred s (state_of cells parts t)) old t.at
plain_step cells parts token inferred s t old {p} plain full e =
    heard_step cells parts token inferred s refl plain.sounds refl (unkept p.unknown refl) refl (plain.outcome inferred) e
  where
    unkept : (b : Bool) → p.unknown ≡ b → Noticed t t old old (notes.signify (reported token) s.line s.column)
    unkept true q = signify_full t old (reported token) s.line s.column (full q)
    unkept false q = noticed_none t old (notes.signify (reported token) s.line s.column) (λ st. signify_none (reported token) s.line s.column (ap length (plain.reports q)) st)
