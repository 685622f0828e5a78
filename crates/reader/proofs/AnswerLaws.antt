-- From what the two readings come to, to the answer and the buffer.
use mathlib.Core.Path.{◌≡◌, refl, sym, ap, ap₂, subst, ◌∙◌}
use Prim.Native.Nat.{ℕ, ◌+◌, ◌-◌, ◌≤◌, ◌<◌, ◌^◌}
use native.Mathlib.Nat.{zero-add}
use native.Mathlib.Omega.{arith}
use mathlib.Core.Bool.{Bool, true, false, cond}
use mathlib.Core.List.{List, [], ◌++◌, append_assoc, append-nil}
use lib.Dec.{leb}
use lib.ListN.{length, take, drop, get_or, length-append, length-drop, drop_of_length-le}
use lib.Seq.{drop_at, drop-drop, take_all, length-take-le}
use borrow.Author.Tests.{le-leb, lt-leb, eq-eqb, ne_eqb}
use Rattle.slices.specs.Store.{stored}
use Rattle.slices.proofs.TestLaws.{clash}
use Rattle.utf8.specs.Utf8.{utf8_length}
use Rattle.lines.specs.Lines.{lines_of}
use Rattle.sheet.specs.Record.{Record, head_bytes, records_bytes}
use Rattle.sheet.proofs.HeadLaws.{head_length}
use Rattle.reading.specs.State.{start}
use Rattle.reading.specs.Text.{Answer, refusal, accepted, read_lines, read_text, sheet_bytes, answer_of, buffer_of}
use Rattle.state.specs.Lay.{laid, behind}
use Rattle.state.proofs.LayLaws.{laid_fits, behind_small}
use Rattle.account.specs.Reached.{Question8, Question17}
use Rattle.account.proofs.Question.{question_8, question_17}
use Rattle.demand.specs.Played.{Played}
use Rattle.demand.proofs.PlayedLaws.{played}
use Rattle.demand.proofs.NumberLaws.{refusal_not_13}
use Rattle.extent.specs.Extent.{Extent}
use Rattle.extent.proofs.TextLaws.{extent}
use Rattle.reader.specs.Landing.{refused, written, finished, lines_at}
use Rattle.reader.specs.Measured.{Measured}
use Rattle.reader.specs.Told.{finished_by, Tells}
use Rattle.reader.specs.Answer.{numbers_of}
use Rattle.std.specs.Prelude.{Result, Ok, Err}
use Rattle.refusal.specs.Numbers.{number_of, line_of, figure_of}
use Rattle.refusal.specs.declared.Refusal.{Refusal}
use Rattle.refusal.specs.declared.Refusal.TheVariants.{ShortBuffer}
use Rattle.reader.specs.declared.Written.{Written}
use Rattle.reader.proofs.LandingLaws.{lines_at_lem}

-- ---- questions 1 and 2
pub too_long : (text : List ℕ) → 67108864 < length text → read_text text ≡ refusal 1 0 (length text)
unfolding read_text
too_long text h = rw (lt-leb (length text) 67108864 h)

pub not_utf8 : (text : List ℕ) → length text ≤ 67108864 → utf8_length text < length text → read_text text ≡ refusal 2 0 (utf8_length text)
unfolding read_text
not_utf8 text h u = rw (le-leb (length text) 67108864 h, ne_eqb (utf8_length text) (length text) (λ e. omega arith))

pub read_by_lines : (text : List ℕ) → length text ≤ 67108864 → utf8_length text ≡ length text → (out : List ℕ)
    → finished (read_text text) out ≡ lines_at false 0 0 (lines_of text) start 0 out
unfolding read_text laid behind
read_by_lines text h u out =
    let same : read_text text ≡ read_lines false 0 0 [] start (lines_of text)
    = rw (le-leb (length text) 67108864 h, eq-eqb (utf8_length text) (length text) u) in
    ap (λ (a : Answer). finished a out) same ∙ lines_at_lem false 0 0 [] start (lines_of text) out

-- ---- a refusal
pub refusal_is : (a : Answer) (n l f : ℕ) (out : List ℕ) → refused n l f ≡ finished a out → a ≡ refusal n l f
refusal_is (refusal m k g) n l f out e = cc
refusal_is (accepted p m rs) n l f out e = clash cc

pub answers_refusal : (text old : List ℕ) (n l f : ℕ) → read_text text ≡ refusal n l f → (answer_of text old ≡ (n, l, f)) × (buffer_of text old ≡ old)
unfolding answer_of buffer_of
answers_refusal text old n l f e = (rw e, rw e)

-- ---- an acceptance
measured_at : (text : List ℕ) (a : Answer) (parts notes at : ℕ) (out rest : List ℕ) → read_text text ≡ a → written parts notes at rest ≡ finished a out
    → Measured text parts notes at
measured_at text (refusal n l f) parts notes at out rest e w = clash cc
measured_at text (accepted p n rs) parts notes at out rest e w =
    let a : parts ≡ p = cc in
    let b : notes ≡ n = cc in
    let c : at ≡ behind 0 rs = cc in
    let is : read_text text ≡ accepted parts notes rs = e ∙ ap₂ (λ (x y : ℕ). accepted x y rs) (sym a) (sym b) in
    let bounds : Extent parts notes rs = extent text parts notes rs is in
    let z : 0 + length (records_bytes rs) < 2 ^ 64 = omega (arith, bounds.long) in
    record { records = rs; is = is; size = c ∙ behind_small rs 0 z ∙ zero-add (length (records_bytes rs)); bounds = bounds }

pub measured : (text : List ℕ) (parts notes at : ℕ) (out rest : List ℕ) → written parts notes at rest ≡ finished (read_text text) out → Measured text parts notes at
measured text parts notes at out rest w = measured_at text (read_text text) parts notes at out rest refl w

-- what is measured
pub measured_long : {text : List ℕ} {parts notes at : ℕ} → Measured text parts notes at → 16 + at < 2 ^ 32
measured_long m = omega (arith, m.size, m.bounds.long)

pub sheet_long : (parts notes : ℕ) (rs : List Record) → length (sheet_bytes parts notes rs) ≡ 16 + length (records_bytes rs)
unfolding sheet_bytes
sheet_long parts notes rs =
    length-append (head_bytes (record { parts = parts; length = 16 + length (records_bytes rs); notes = notes })) (records_bytes rs)
    ∙ ap (λ (n : ℕ). n + length (records_bytes rs)) (head_length (record { parts = parts; length = 16 + length (records_bytes rs); notes = notes }))

-- "Is the lent buffer at least as long as the sheet? No: 13, figure the length needed"
pub answers_13 : {text : List ℕ} {parts notes at : ℕ} (old : List ℕ) → Measured text parts notes at → length old < 16 + at
    → (answer_of text old ≡ (13, 0, 16 + at)) × (buffer_of text old ≡ old)
unfolding answer_of buffer_of stored
answers_13 {text} {parts} {notes} {at} old m h =
    let long : length (sheet_bytes parts notes m.records) ≡ 16 + at = sheet_long parts notes m.records ∙ ap (λ (n : ℕ). 16 + n) (sym m.size) in
    let short : leb (16 + at) (length old) ≡ false = lt-leb (16 + at) (length old) h in
    (rw (m.is, long, short), rw (m.is, long, short))

-- the second reading wrote behind the first 16 bytes, and the head is stored over those
pub answers_sheet : {text : List ℕ} {parts notes at : ℕ} (old : List ℕ) → Measured text parts notes at → 16 + at ≤ length old
    → answer_of text old ≡ (0, 0, 16 + at)
unfolding answer_of
answers_sheet {text} {parts} {notes} {at} old m h =
    let long : length (sheet_bytes parts notes m.records) ≡ 16 + at = sheet_long parts notes m.records ∙ ap (λ (n : ℕ). 16 + n) (sym m.size) in
    let fits : leb (16 + at) (length old) ≡ true = le-leb (16 + at) (length old) h in
    rw (m.is, long, fits)

-- what the second reading leaves of the bytes from 16 on
pub body_laid : {text : List ℕ} {parts notes at : ℕ} (out rest : List ℕ) (m : Measured text parts notes at) → at ≤ length out
    → (f : Result Written Refusal) → finished_by f rest ≡ finished (read_text text) out → rest ≡ records_bytes m.records ++ drop at out
body_laid out rest m h (Err r) e =
    let f : refused (number_of r) (line_of r) (figure_of r) ≡ finished (accepted _ _ m.records) out = rw m.is at e in
    clash cc
body_laid {at = at} out rest m h (Ok v) e =
    let f : written v.parts v.notes v.at rest ≡ finished (accepted _ _ m.records) out = rw m.is at e in
    let r : rest ≡ laid out 0 m.records = cc in
    let z : 0 + length (records_bytes m.records) ≡ at = zero-add (length (records_bytes m.records)) ∙ sym m.size in
    let b : 0 + length (records_bytes m.records) ≤ length out = omega arith in
    let w : 0 + length (records_bytes m.records) < 2 ^ 64 = omega (arith, m.bounds.long) in
    r ∙ laid_fits m.records out 0 b w ∙ ap (λ (j : ℕ). records_bytes m.records ++ drop j out) z

pub sheet_stored : {text : List ℕ} {parts notes at : ℕ} (old body : List ℕ) (m : Measured text parts notes at) → 16 + at ≤ length old
    → body ≡ records_bytes m.records ++ drop at (drop 16 old)
    → stored (take 16 old ++ body) (head_bytes (record { parts = parts; length = 16 + at; notes = notes })) ≡ buffer_of text old
unfolding buffer_of stored sheet_bytes
sheet_stored {text} {parts} {notes} {at} old body m h e =
    let bytes = records_bytes m.records in
    let head = head_bytes (record { parts = parts; length = 16 + at; notes = notes }) in
    let same : 16 + length bytes ≡ 16 + at = ap (λ (n : ℕ). 16 + n) (sym m.size) in
    let heads : sheet_bytes parts notes m.records ≡ head ++ bytes
    = ap (λ (n : ℕ). head_bytes (record { parts = parts; length = n; notes = notes }) ++ bytes) same in
    let hl : length head ≡ 16 = head_length (record { parts = parts; length = 16 + at; notes = notes }) in
    let sl : length (head ++ bytes) ≡ 16 + at = length-append head bytes ∙ ap (λ (n : ℕ). n + length bytes) hl ∙ same in
    let tl : length (take 16 old) ≡ 16 = length-take-le 16 old (omega arith) in
    let wide : length (take 16 old ++ body) ≡ length (take 16 old) + length body = length-append (take 16 old) body in
    let over : leb (length head) (length (take 16 old ++ body)) ≡ true = le-leb (length head) (length (take 16 old ++ body)) (omega arith) in
    let fits : leb (length (head ++ bytes)) (length old) ≡ true = le-leb (length (head ++ bytes)) (length old) (omega arith) in
    let rest : drop (length head) (take 16 old ++ body) ≡ body = ap (λ (n : ℕ). drop n (take 16 old ++ body)) hl ∙ drop_at (take 16 old) body 16 tl in
    let left : stored (take 16 old ++ body) head ≡ head ++ body
    = ap (λ (t : Bool). cond t (head ++ drop (length head) (take 16 old ++ body)) (take 16 old ++ body)) over ∙ ap (λ (l : List ℕ). head ++ l) rest in
    let right : stored old (head ++ bytes) ≡ (head ++ bytes) ++ drop (16 + at) old
    = ap (λ (t : Bool). cond t ((head ++ bytes) ++ drop (length (head ++ bytes)) old) old) fits
    ∙ ap (λ (n : ℕ). (head ++ bytes) ++ drop n old) sl in
    let order : at + 16 ≡ 16 + at = omega arith in
    let whole : buffer_of text old ≡ stored old (head ++ bytes) = rw m.is (ap (stored old) heads) in
    left
    ∙ ap (λ (l : List ℕ). head ++ l) (e ∙ ap (λ (l : List ℕ). bytes ++ l) (drop-drop at 16 old))
    ∙ sym (append_assoc head bytes (drop (16 + at) old))
    ∙ sym right
    ∙ sym whole

-- what the first reading says
pub tells : (text out rest : List ℕ) (f : Result Written Refusal) → finished_by f rest ≡ finished (read_text text) out → Tells f text
tells text out rest (Ok w) e = measured text w.parts w.notes w.at out rest e
tells text out rest (Err r) e = refusal_is (read_text text) (number_of r) (line_of r) (figure_of r) out e

-- ---- the answers, with all that the contract says of them
abbrev pub Answers : List ℕ → List ℕ → List ℕ → Result ℕ Refusal → Type 0
Answers text old now-out r = record {
  answer : numbers_of r ≡ answer_of text old;
  buffer : now-out ≡ buffer_of text old;
  fits : (n : ℕ) → r ≡ Ok n → n ≤ length old;
  played : (n : ℕ) → r ≡ Ok n → Played text now-out;
  needed : (f : ℕ) → r ≡ Err (ShortBuffer f) → f < 2 ^ 32;
  stopped : Question8 text (numbers_of r);
  joined : Question17 text (numbers_of r);
}

pub answers_refused : (text old : List ℕ) (r : Refusal) → read_text text ≡ refusal (number_of r) (line_of r) (figure_of r) → Answers text old old (Err r)
answers_refused text old r e =
    let a = answers_refusal text old (number_of r) (line_of r) (figure_of r) e in
    record {
      answer = sym a.0;
      buffer = sym a.1;
      fits = λ (k : ℕ) q. clash cc;
      played = λ (k : ℕ) q. clash cc;
      needed = λ (g : ℕ) q. absurd (refusal_not_13 text (number_of r) (line_of r) (figure_of r) e (is_13 q));
      stopped = subst (Question8 text) a.0 (question_8 text old);
      joined = subst (Question17 text) a.0 (question_17 text old);
    }
  where
    is_13 : {g : ℕ} → ◌≡◌ {A = Result ℕ Refusal} (Err r) (Err (ShortBuffer g)) → number_of r ≡ 13
    is_13 {g} q = let z : r ≡ ShortBuffer g = cc in ap number_of z

pub answers_short : {text : List ℕ} {parts notes at : ℕ} (old : List ℕ) → Measured text parts notes at → length old < 16 + at
    → Answers text old old (Err (ShortBuffer (16 + at)))
answers_short {text} {parts} {notes} {at} old m h =
    let a = answers_13 old m h in
    record {
      answer = sym a.0;
      buffer = sym a.1;
      fits = λ (k : ℕ) q. clash cc;
      played = λ (k : ℕ) q. clash cc;
      needed = λ (g : ℕ) q. let z : 16 + at ≡ g = cc in omega (arith, measured_long m);
      stopped = subst (Question8 text) a.0 (question_8 text old);
      joined = subst (Question17 text) a.0 (question_17 text old);
    }

pub answers_written : {text : List ℕ} {parts notes at : ℕ} (old : List ℕ) → ((i : ℕ) → get_or text i 0 < 2 ^ 8) → Measured text parts notes at → 16 + at ≤ length old
    → {now-out : List ℕ} → now-out ≡ buffer_of text old → Answers text old now-out (Ok (16 + at))
answers_written {text} {parts} {notes} {at} old bytes m h {now-out} e = record {
  answer = sym (answers_sheet old m h);
  buffer = e;
  fits = λ (k : ℕ) q. let z : 16 + at ≡ k = cc in omega arith;
  played = λ (k : ℕ) q. subst (Played text) (sym e) (played text old bytes parts notes m.records m.is (omega (arith, m.size)));
  needed = λ (g : ℕ) q. clash cc;
  stopped = subst (Question8 text) (answers_sheet old m h) (question_8 text old);
  joined = subst (Question17 text) (answers_sheet old m h) (question_17 text old);
}

-- by the case that the first reading's answer is
pub told_written : (text : List ℕ) (f : Result Written Refusal) → Tells f text → {w : Written} → f ≡ Ok w → Measured text w.parts w.notes w.at
told_written text f t e = subst (λ (x : Result Written Refusal). Tells x text) e t

pub told_refused : (text : List ℕ) (f : Result Written Refusal) → Tells f text → {r : Refusal} → f ≡ Err r → read_text text ≡ refusal (number_of r) (line_of r) (figure_of r)
told_refused text f t e = subst (λ (x : Result Written Refusal). Tells x text) e t

-- question 2, by the length that the code finds
pub not_utf8_at : (text : List ℕ) {k : ℕ} → length text ≤ 67108864 → k < length text → k ≡ utf8_length text → read_text text ≡ refusal 2 0 k
not_utf8_at text {k} h u e = not_utf8 text h (omega arith) ∙ ap (refusal 2 0) (sym e)

pub utf8_whole : (text : List ℕ) {k : ℕ} → (k ≡ utf8_length text) × (k ≤ length text) → length text ≤ k → utf8_length text ≡ length text
utf8_whole text e h = omega (arith, e.0, e.1)

-- the second reading, and the head over the first 16 bytes
pub sheet_written : (text old tail final : List ℕ) (parts notes at : ℕ) (f : Result Written Refusal) → length text ≤ 67108864 → utf8_length text ≡ length text
    → Measured text parts notes at → 16 + at ≤ length old
    → finished_by f tail ≡ lines_at false 0 0 (lines_of text) start 0 (take (length old - 16) (drop 16 old))
    → final ≡ stored (take 16 old ++ (tail ++ drop (length old - 16) (drop 16 old))) (head_bytes (record { parts = parts; length = 16 + at; notes = notes }))
    → final ≡ buffer_of text old
sheet_written text old tail final parts notes at f h u m room e w =
    let n : length (drop 16 old) ≡ length old - 16 = length-drop 16 old in
    let whole : take (length old - 16) (drop 16 old) ≡ drop 16 old = take_all (length old - 16) (drop 16 old) (omega arith) in
    let none : drop (length old - 16) (drop 16 old) ≡ [] = drop_of_length-le (drop 16 old) {i = length old - 16} (omega arith) in
    let read-so : finished_by f tail ≡ finished (read_text text) (drop 16 old)
    = e ∙ ap (λ (l : List ℕ). lines_at false 0 0 (lines_of text) start 0 l) whole ∙ sym (read_by_lines text h u (drop 16 old)) in
    let body : tail ≡ records_bytes m.records ++ drop at (drop 16 old) = body_laid (drop 16 old) tail m (omega arith) f read-so in
    w
    ∙ ap (λ (l : List ℕ). stored (take 16 old ++ l) (head_bytes (record { parts = parts; length = 16 + at; notes = notes })))
    (ap (λ (l : List ℕ). tail ++ l) none ∙ append-nil tail)
    ∙ sheet_stored old tail m room body
