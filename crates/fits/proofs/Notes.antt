-- A NOTE has room, and data records keep the state good.
use mathlib.Core.Path.{◌≡◌, refl, sym, ◌∙◌}
use mathlib.Core.Bool.{Bool, true, false, cond}
use mathlib.Core.List.{List, [], ◌∷◌, map}
use Prim.Native.Nat.{ℕ, suc, ◌+◌, ◌≤◌, ◌<◌}
use native.Mathlib.Omega.{arith}
use lib.Dec.{eqb, ltb}
use lib.ListN.{length, length-map}
use Rattle.sheet.specs.Fits.{All, U8, U16, U32, PitchFits, Fits}
use Rattle.lines.specs.Tokens.{is_null}
use Rattle.notation.specs.Beam.{beam_number}
use Rattle.notation.specs.declared.beam.Mark.{Mark}
use Rattle.notation.specs.declared.beam.Mark.TheVariants.{None, Begin, Continue, End}
use Rattle.items.specs.Items.{items}
use Rattle.token.specs.Token.{is_bad, rest_of, pitches_of, marks, signifiers_of}
use Rattle.token.specs.Outcome.{Outcome, notice_number, read_token, reported, note_pitches}
use Rattle.token.specs.declared.pitches.Tone.{Tone}
use Rattle.token.specs.declared.outcome.Note.{Note}
use Rattle.std.specs.Prelude.{Some, None, Ok, Err}
use Rattle.token.proofs.AccountLaws.{Listed, lists_agree}
use Rattle.paths.specs.declared.Spine.{Spine}
use Rattle.paths.specs.declared.Spine.TheVariants.{Line, Branch, Outside}
use Rattle.reading.specs.State.{State, Result, Step, refused, goes, ends, part_at, with_part, with_notes}
use Rattle.reading.specs.Notices.{Token, span_of_token, quiet, notify}
use Rattle.reading.specs.Bars.{is_kern_spine}
use Rattle.reading.specs.Notes.{bit, flags_of, pitch_of_tone, beam_in, sounded, note_record, add_note, behind, by_outcome, signify, inferred_for, read_token_at, read_spine, and_then, read_tokens, read_data}
use Rattle.fits.proofs.Each.{either, all_map, all_append}
use Rattle.fits.proofs.Items.{ToneFits, items_fit, heard_fits, articulations_fit, alter_fits, signifiers_fit}
use Rattle.fits.proofs.Outcomes.{Sized, OutcomeFits, token_fits}
use Rattle.fits.proofs.Cuts.{TokenFits}
use Rattle.fits.proofs.Rows.{SpineFits}
use Rattle.fits.proofs.Good.{Good, Fine, FineStep, refuses, going, ending, token_span, part_good, with_part_lem, fine_quiet, fine_after, fine_notify, fine_signifiers}
use Rattle.token.proofs.FewLaws.{items_few, signifiers_few, gives}

-- ---- the record

bit_most : (b : Bool) (weight : ℕ) → bit b weight ≤ weight
bit_most true weight = omega arith
bit_most false weight = omega arith

flags_fit : (n : Note) → U8 (flags_of n)
flags_fit n =
    omega (
      arith,
      bit_most n.rest 1,
      bit_most n.ties 2,
      bit_most n.tied 4,
      bit_most n.slurs 8,
      bit_most n.slurred 16,
      bit_most (ltb 0 n.grace) 32,
      bit_most (eqb n.grace 2) 64,
    )

beam_fits : (m : Mark) → U8 (beam_number m)
beam_fits None = omega arith
beam_fits Begin = omega arith
beam_fits Continue = omega arith
beam_fits End = omega arith

tone_pitch : (t : Tone) → ToneFits t → PitchFits (pitch_of_tone t)
tone_pitch t h = (h.0, (h.1, (alter_fits t.alter, tt)))

note_tones : (token : List ℕ) → All ToneFits (note_pitches token)
note_tones token =
    either (All ToneFits) (rest_of (items token)) [] (pitches_of (items token)) tt (heard_fits None (items token) tt)

note_fits : {m : ℕ} (p v k j : ℕ) (t : Token) (n : Note) (st : State) → U8 p → U8 v → U32 k → U16 j → m < 134217728 → TokenFits t → Sized n
    → Listed t.bytes n → Good m st → Fits (note_record p v k j t.bytes n st)
unfolding note_record
note_fits p v k j t n st hp hv hk hj w f s l g =
    let few = gives t.bytes in
    record {
      bytes =
          (hp, (hv, (s.value, (s.dots, (flags_fit n, (s.actual, (s.normal, (beam_fits (beam_in (part_at st p) v t.bytes).mark, tt))))))));
      column = hj;
      numbers = (
        omega (arith, g.bars),
        (
          hk,
          (
            omega (arith, l.pitches, few.pitches, f.ends),
            (omega (arith, l.articulations, few.articulations, f.ends), tt),
          ),
        ),
      );
      pitches = l.pitches ∙ sym (length-map (note_pitches t.bytes) pitch_of_tone);
      articulations = l.articulations;
      each_pitch = all_map ToneFits PitchFits pitch_of_tone tone_pitch (note_pitches t.bytes) (note_tones t.bytes);
      each_articulation = articulations_fit (marks (items t.bytes));
    }

-- ---- steps

pub fine_behind : {n m : ℕ} {r : Result} (f : State → Step) → Fine n r → ((s : State) → Good n s → FineStep m (f s)) → FineStep m (behind r f)
fine_behind {n} {m} {r} f h k = go (f r.state) refl (k r.state h.state)
  where
    go : (s : Step) → f r.state ≡ s → FineStep m s → FineStep m (behind r f)
    go (refused a b c) e x = rw e refuses
    go (goes q) e (going x) = rw e (going (record { state = x.state; records = all_append Fits r.records q.records h.records x.records }))
    go (ends q) e (ending x) = rw e (ending (record { state = x.state; records = all_append Fits r.records q.records h.records x.records }))

and_then_lem : {n : ℕ} {s : Step} (f : State → Step) → FineStep n s → ((s : State) → Good n s → FineStep n (f s)) → FineStep n (and_then s f)
and_then_lem f refuses k = refuses
and_then_lem f (going h) k = fine_behind f h k
and_then_lem f (ending h) k = ending h

-- ---- a token

module _ {m : ℕ} (p v k j : ℕ) (t : Token) (hp : U8 p) (hv : U8 v) (hk : U32 k) (hj : U16 j) (w : m < 134217728) (f : TokenFits t) where
  good_sounded : (s : State) → Good m s → Good m (with_notes (with_part s p (sounded (part_at s p) v t.bytes)) (s.notes + 1))
  good_sounded s g =
      let h = part_good p hp g in
      let q = with_part_lem {part = sounded (part_at s p) v t.bytes} p (record {
        named = h.named;
        name = h.name;
        short = h.short;
        mode = h.mode;
        current = h.current;
        first = h.first;
      }) g in
      record {
        row = q.row;
        parts = q.parts;
        bars = q.bars;
        tempo = q.tempo;
        title = q.title;
        composer = q.composer;
        lyricist = q.lyricist;
      }

  fine_note : (n : Note) (st : State) → Sized n → Listed t.bytes n → Good m st → FineStep m (add_note p v k j t n st)
  unfolding add_note
  fine_note n st s l g =
      either (FineStep m) (ltb st.notes 100000) _ (refused 10 k 0)
      (going
      (fine_after
      (λ (s : State). record {
        state = with_notes (with_part s p (sounded (part_at s p) v t.bytes)) (s.notes + 1);
        records = note_record p v k j t.bytes n s ∷ [];
      })
      (either (Fine m) n.inferred (notify 20 k j (span_of_token t) st) (quiet st)
      (fine_notify 20 k j (span_of_token t) (omega arith, refl) hk hj (token_span f) g) (fine_quiet g))
      (λ (x : State) (y : Good m x). record {
        state = good_sounded x y;
        records = (note_fits p v k j t n x hp hv hk hj w f s l y, tt);
      })))
      refuses

  by_outcome_lem : (peers : List ℕ) (o : Outcome) (st : State) → read_token t.bytes peers ≡ o → OutcomeFits o → Good m st
      → FineStep m (by_outcome o p v k j t st)
  by_outcome_lem peers (Ok None) st e h g = going (fine_quiet g)
  by_outcome_lem peers (Err why) st e h g = going (fine_notify (notice_number why) k j (span_of_token t) h hk hj (token_span f) g)
  by_outcome_lem peers (Ok (Some n)) st e h g = fine_note n st h (lists_agree t.bytes peers n e) g

fine_signify : {m : ℕ} (bs : List ℕ) (k j : ℕ) (st : State) → U32 k → U16 j → U32 (length bs) → All U8 bs → Good m st → Fine m (signify bs k j st)
fine_signify [] k j st hk hj l h g = fine_quiet g
fine_signify (b ∷ bs) k j st hk hj l h g = fine_signifiers k j (b ∷ bs) hk hj l h g

reported_fits : (t : Bool) (bs : List ℕ) (n : ℕ) → length bs ≤ n → All U8 bs → (length (cond t [] bs) ≤ n) × All U8 (cond t [] bs)
reported_fits true bs n l h = (omega arith, tt)
reported_fits false bs n l h = (l, h)

fine_token : {m : ℕ} (all : List (List ℕ)) (kern : List Bool) (p v k i : ℕ) (t : Token) (st : State) → U8 p → U8 v → U32 k → i < 256
    → m < 134217728 → TokenFits t → Good m st → FineStep m (read_token_at all kern p v k i t st)
unfolding read_token_at
fine_token {m} all kern p v k i t st hp hv hk hi w f g =
    let r = reported_fits (is_bad (items t.bytes)) (signifiers_of (items t.bytes)) (length t.bytes)
    (omega (arith, signifiers_few false (items t.bytes), items_few t.bytes)) (signifiers_fit false (items t.bytes) (items_fit t.bytes f.bytes)) in
    let peers : List ℕ = inferred_for all kern i t.bytes in
    either (FineStep m) (is_null t.bytes) (goes (quiet st))
    (behind (signify (reported t.bytes) k (i + 1) st) (by_outcome (read_token t.bytes peers) p v k (i + 1) t))
    (going (fine_quiet g))
    (fine_behind (by_outcome (read_token t.bytes peers) p v k (i + 1) t)
    (fine_signify (reported t.bytes) k (i + 1) st hk (omega arith) (omega (arith, r.0, f.ends)) r.1 g)
    (λ (s : State) (x : Good m s). by_outcome_lem p v k (i + 1) t hp hv hk (omega arith) w f peers (read_token t.bytes peers) s refl
    (token_fits t.bytes peers f.bytes) x))

fine_spine : {m : ℕ} (s : Spine) (all : List (List ℕ)) (kern : List Bool) (k i : ℕ) (t : Token) (st : State) → SpineFits s → U32 k → i < 256
    → m < 134217728 → TokenFits t → Good m st → FineStep m (read_spine s all kern k i t st)
fine_spine (Line p v) all kern k i t st h hk hi w f g = fine_token all kern p v k i t st h.0 h.1 hk hi w f g
fine_spine (Branch p) all kern k i t st h hk hi w f g = going (fine_quiet g)
fine_spine Outside all kern k i t st h hk hi w f g = going (fine_quiet g)

fine_tokens : {m : ℕ} (all : List (List ℕ)) (kern : List Bool) (k i : ℕ) (row : List Spine) (ts : List Token) (st : State) → U32 k
    → i + length row ≤ 256 → m < 134217728 → All SpineFits row → All TokenFits ts → Good m st → FineStep m (read_tokens all kern k i row ts st)
unfolding read_tokens
fine_tokens all kern k i [] ts st hk hi w h f g = going (fine_quiet g)
fine_tokens all kern k i (s ∷ row) [] st hk hi w h f g = going (fine_quiet g)
fine_tokens all kern k i (s ∷ row) (t ∷ ts) st hk hi w h f g =
    and_then_lem (read_tokens all kern k (suc i) row ts) (fine_spine s all kern k i t st h.0 hk (omega arith) w f.0 g)
    (λ x y. fine_tokens all kern k (suc i) row ts x hk (omega arith) w h.1 f.1 y)

pub fine_data : {m : ℕ} (k : ℕ) (ts : List Token) (st : State) → U32 k → m < 134217728 → All TokenFits ts → Good m st → FineStep m (read_data k ts st)
unfolding read_data
fine_data k ts st hk w f g =
    fine_tokens (map (λ (t : Token). t.bytes) ts) (map is_kern_spine st.row) k 0 st.row ts st hk (omega (arith, g.row.few)) w g.row.spines f g
