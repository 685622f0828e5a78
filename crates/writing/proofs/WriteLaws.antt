-- A record written into the end of a buffer from a place on; a record and the lists behind it.
use mathlib.Core.Path.{◌≡◌, refl, sym, ap, ap₂, ◌∙◌}
use Prim.Native.Nat.{ℕ, ◌+◌, ◌-◌, ◌*◌, ◌≤◌, ◌<◌, min}
use native.Mathlib.Omega.{arith}
use native.Mathlib.Nat.{zero-add, not-suc-le-zero}
use mathlib.Core.Bool.{Bool, true, false, cond}
use mathlib.Core.List.{List, [], ◌∷◌, ◌++◌, map, append_assoc}
use lib.ListN.{length, take, drop, length-append, length-map}
use lib.Seq.{sets}
use borrow.Author.Tests.{lt-ltb, le-ltb}
use Rattle.slices.specs.Store.{stored}
use Rattle.slices.proofs.StoreLaws.{stored_sets, sets_append}
use Rattle.token.specs.Outcome.{note_pitches}
use Rattle.token.specs.Token.{rest_of, pitches_of, articulations_of}
use Rattle.token.specs.declared.pitches.Tone.{Tone}
use Rattle.items.specs.Items.{items}
use Rattle.lists.specs.Lists.{tone_bytes}
use Rattle.lists.proofs.ItemLaws.{tones_length}
use Rattle.reading.specs.Notes.{pitch_of_tone}
use Rattle.pitch.specs.Pitch.{twos_complement}
use Rattle.sheet.specs.declared.Note.{Note}
use Rattle.sheet.specs.declared.Notice.{Notice}
use Rattle.sheet.specs.Record.{Record, NOTICE, note_bytes, pitch_bytes, pitches_bytes, record_bytes}
use Rattle.sheet.proofs.NoteLaws.{note_length_lem, NOTE_length}
use Rattle.state.specs.Lay.{past, stored_at, laid, behind}
use Rattle.state.proofs.LayLaws.{laid_one, behind_one, stored_back}
use Rattle.state.specs.declared.Tally.{Tally}
use Rattle.writing.specs.Kept.{note_record, Alone, counted, kept_records, after_kept}

-- the end of a buffer is lent for a record of n bytes, and the place moves by n
pub wrote : (r : Record) (xs : List ℕ) (at : ℕ) {bytes ys : List ℕ} {k n p : ℕ} → record_bytes r ≡ bytes → length bytes ≡ n → k ≡ min at (length xs)
    → ys ≡ stored (take (length xs - k) (drop k xs)) bytes → p ≡ past at n
    → (take k xs ++ (ys ++ drop (length xs - k) (drop k xs)) ≡ laid xs at (r ∷ [])) × (p ≡ behind at (r ∷ []))
wrote r xs at {bytes} {ys} {k} e l m s w =
    (stored_back bytes xs ys at k m s ∙ sym (laid_one r xs at ∙ ap (λ (b : List ℕ). stored_at xs at b) e), w ∙ sym (behind_one r at ∙ ap (past at) (ap length e ∙ l)))

-- the pitches that a NOTE has are those that its token's list writes
pub tones : (ts : List Tone) → pitches_bytes (map pitch_of_tone ts) ≡ tone_bytes ts
unfolding pitches_bytes pitch_bytes tone_bytes
tones [] = refl
tones (t ∷ ts) = ap (λ (l : List ℕ). t.step ∷ t.octave ∷ twos_complement t.alter ∷ l) (tones ts)

-- the one pitch of a token
pub tone_alone : (token : List ℕ) (t : Tone) {a : ℕ} → a ≡ twos_complement t.alter → Alone token t → (length (note_pitches token) ≡ 0 → ⊥)
    → pitch_bytes (record { step = t.step; octave = t.octave; alter = a }) ≡ tone_bytes (note_pitches token)
unfolding pitch_bytes tone_bytes
tone_alone token t e alone some = ap (λ (x : ℕ). t.step ∷ t.octave ∷ x ∷ []) e ∙ sym (ap tone_bytes (alone some))

pub noted_bytes : (n : Note) (token : List ℕ)
    → record_bytes (note_record n token) ≡ note_bytes n ++ (tone_bytes (note_pitches token) ++ articulations_of (items token))
unfolding record_bytes
noted_bytes n token = ap (λ (l : List ℕ). note_bytes n ++ (l ++ articulations_of (items token))) (tones (note_pitches token))

-- bytes, and further bytes behind them
pub stored_more : (first more out : List ℕ) {a b : List ℕ} {n : ℕ} → length first ≡ n → n + length more ≤ length out → a ≡ stored out first → b ≡ sets a n more
    → b ≡ stored out (first ++ more)
stored_more first more out e h p q =
    let l : length (first ++ more) ≡ length first + length more = length-append first more in
    q
    ∙ ap₂ (λ (x : List ℕ) (k : ℕ). sets x k more) (p ∙ stored_sets out first (omega arith)) (sym e ∙ sym (zero-add (length first)))
    ∙ sets_append first more out 0
    ∙ sym (stored_sets out (first ++ more) (omega arith))

-- a notice that is kept, and one that isn't
pub is_kept : (t : Tally) (n : Notice) (bytes out : List ℕ) {u : Tally} {last : List ℕ} {at : ℕ} → t.notices < 1024 → last ≡ laid out t.at (NOTICE n bytes ∷ [])
    → at ≡ behind t.at (NOTICE n bytes ∷ []) → u ≡ counted t at → (last ≡ laid out t.at (kept_records t n bytes)) × (u ≡ after_kept t n bytes)
unfolding kept_records after_kept
is_kept t n bytes out h l w e = rw (lt-ltb t.notices 1024 h) (l, e ∙ ap (counted t) w)

pub not_kept : (t : Tally) (n : Notice) (bytes out : List ℕ) → 1024 ≤ t.notices → (out ≡ laid out t.at (kept_records t n bytes)) × (t ≡ after_kept t n bytes)
unfolding kept_records after_kept laid
not_kept t n bytes out h = rw (le-ltb t.notices 1024 h) (refl, refl)

-- the bytes of a NOTE with its lists, by the counts that it has
pub noted_length : (n : Note) (token : List ℕ) → n.pitches ≡ length (note_pitches token) → n.articulations ≡ length (articulations_of (items token))
    → length (record_bytes (note_record n token)) ≡ 28 + n.pitches * 3 + n.articulations
noted_length n token p a =
    NOTE_length n (map pitch_of_tone (note_pitches token)) (articulations_of (items token))
    ∙ omega (arith, length-map (note_pitches token) pitch_of_tone)

-- an empty list changes nothing
pub none_put : (bytes out : List ℕ) (at : ℕ) → length bytes ≡ 0 → out ≡ sets out at bytes
none_put [] out at e = refl
none_put (b ∷ bytes) out at e = absurd (not-suc-le-zero {n = 0} (omega arith))

-- a token with pitches is no rest
pub sounds : (token : List ℕ) → (length (note_pitches token) ≡ 0 → ⊥) → rest_of (items token) ≡ false
sounds token h = go (rest_of (items token)) refl
  where
    go : (t : Bool) → rest_of (items token) ≡ t → rest_of (items token) ≡ false
    go true e = absurd (h (ap (λ (t : Bool). length (cond t [] (pitches_of (items token)))) e))
    go false e = e

-- a NOTE, its pitches behind it, and its articulations behind these
pub noted : (n : Note) (token out : List ℕ) {a b c : List ℕ} → n.pitches ≡ length (note_pitches token) → n.articulations ≡ length (articulations_of (items token))
    → 28 + n.pitches * 3 + n.articulations ≤ length out → a ≡ stored out (note_bytes n) → b ≡ sets a 28 (tone_bytes (note_pitches token))
    → c ≡ sets b (28 + n.pitches * 3) (articulations_of (items token)) → c ≡ stored out (record_bytes (note_record n token))
noted n token out {b = b} p q h x y z =
    let tones = tone_bytes (note_pitches token) in
    let marks = articulations_of (items token) in
    let t : length tones ≡ 3 * length (note_pitches token) = tones_length (note_pitches token) in
    let l : length (note_bytes n) ≡ 28 = note_length_lem n in
    let k : length (note_bytes n ++ tones) ≡ 28 + n.pitches * 3 = length-append (note_bytes n) tones ∙ omega arith in
    let m : b ≡ stored out (note_bytes n ++ tones) = stored_more (note_bytes n) tones out l (omega arith) x y in
    stored_more (note_bytes n ++ tones) marks out k (omega arith) m z
    ∙ ap (stored out) (append_assoc (note_bytes n) tones marks ∙ sym (noted_bytes n token))
