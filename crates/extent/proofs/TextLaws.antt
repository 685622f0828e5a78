-- The whole text: few parts and notes, and a sheet "under 4,294,967,296".
use mathlib.Core.Path.{◌≡◌, refl}
use Prim.Native.Nat.{ℕ, ◌+◌, ◌*◌, ◌^◌, ◌≤◌, ◌<◌}
use native.Mathlib.Omega.{arith}
use mathlib.Core.List.{List, [], ◌∷◌, ◌++◌, reverse, map}
use mathlib.Core.Bool.{Bool, true, false, cond, ◌||◌}
use lib.Dec.{eqb, leb}
use lib.ListN.{length, length-append, length-reverse}
use borrow.Author.Tests.{leb-true}
use Rattle.slices.proofs.TotalLaws.{total, pieces_total}
use Rattle.utf8.specs.Utf8.{utf8_length}
use Rattle.lines.specs.Lines.{lines_of, without_crs, kind_of}
use Rattle.sheet.specs.Record.{Record, head_bytes, record_bytes, records_bytes}
use Rattle.sheet.specs.declared.Head.{Head}
use Rattle.sheet.proofs.HeadLaws.{head_length}
use Rattle.sheet.proofs.PartLaws.{PART_length}
use Rattle.sheet.proofs.EndLaws.{END_length}
use Rattle.reading.specs.State.{State, Result, Step, refused, goes, ends, start}
use Rattle.reading.specs.declared.Part.{Part}
use Rattle.reading.specs.Notices.{quiet}
use Rattle.reading.specs.Bars.{any_noted, closing}
use Rattle.reading.specs.Records.{read_line, is_record}
use Rattle.reading.specs.Text.{Answer, refusal, accepted, part_record, end_record, last_closing, last_records, finish, read_lines, read_text, sheet_bytes}
use Rattle.extent.specs.Extent.{Extent}
use Rattle.extent.proofs.StateLaws.{Holds, After, Passes, bytes_append, bytes_none, bytes_one, widen, quiet_holds}
use Rattle.extent.proofs.BarLaws.{bytes_parts, closing_holds}
use Rattle.extent.proofs.RecordLaws.{line_holds}
use Rattle.lines.proofs.TrimLaws.{content_short}

-- ---- the end
last_holds : {b n : ℕ} (st : State) → Holds b n st → After b n (last_closing st)
unfolding last_closing
last_holds {b} {n} st h = go (any_noted st.parts) refl
  where
    go : (t : Bool) → any_noted st.parts ≡ t → After b n (cond t (closing 0 0 st) (quiet st))
    go true e = closing_holds 0 0 st e h
    go false e = quiet_holds st h

last_bytes : (st : State) → length (records_bytes (last_records st)) ≡ 20 * length st.parts + 32
unfolding last_records
last_bytes st =
    let e : length (record_bytes (end_record st)) ≡ 32 = END_length _ in
    omega (
      arith,
      bytes_append (map part_record (reverse st.parts)) (end_record st ∷ []),
      bytes_parts part_record (λ (p : Part). PART_length _) (reverse st.parts),
      length-reverse st.parts,
      bytes_one (end_record st),
    )

-- what holds of an answer
abbrev Bounded : Answer → Type 0
Bounded (refusal n l f) = Unit {0}
Bounded (accepted parts notes rs) = Extent parts notes rs

finish_bounded : {b : ℕ} (begun : Bool) (before : List Record) (st : State) → b ≤ 335544320 → Holds b (length (records_bytes before)) st
    → Bounded (finish begun before st)
unfolding finish
finish_bounded begun before st p h = go begun (eqb st.notes 0)
  where
    go : (x y : Bool) → Bounded
        (cond x
        (cond y (refusal 12 0 0) (accepted (length st.parts) st.notes (before ++ ((last_closing st).records ++ last_records (last_closing st).state))))
        (refusal 11 0 0))
    go true true = tt
    go true false =
        let l = last_holds st h in
        record {
          parts_few = h.parts_few;
          notes_few = h.notes_few;
          long =
              omega (
                arith,
                l.size,
                l.notes_few,
                l.notices_few,
                l.parts_few,
                l.closed,
                bytes_append before ((last_closing st).records ++ last_records (last_closing st).state),
                bytes_append (last_closing st).records (last_records (last_closing st).state),
                last_bytes (last_closing st).state,
              );
        }
    go false y = tt

-- ---- the lines
step_bounded : {c : ℕ} (n : ℕ) (before : List Record) (s : Step) (on : Result → Answer) → n ≡ length (records_bytes before) → c ≤ 335544320 → Passes c n s
    → ((r : Result) → Holds c (length (records_bytes (before ++ r.records))) r.state → Bounded (on r))
    → Bounded (elim s [
      | refused k m f ↦ refusal k m f
      | goes r ↦ on r
      | ends r ↦ finish true (before ++ r.records) r.state
    ])
step_bounded n before (refused k m f) on e p h next = tt
step_bounded n before (goes r) on e p h next = next r (widen (omega arith) (omega (arith, bytes_append before r.records)) h)
step_bounded n before (ends r) on e p h next =
    finish_bounded true (before ++ r.records) r.state p (widen (omega arith) (omega (arith, bytes_append before r.records)) h)

lines_bounded : {b : ℕ} (begun : Bool) (k at : ℕ) (before : List Record) (st : State) (ls : List (List ℕ)) → b + 5 * total ls ≤ 335544320
    → Holds b (length (records_bytes before)) st → Bounded (read_lines begun k at before st ls)
unfolding read_lines total
lines_bounded begun k at before st [] p h = finish_bounded begun before st (omega arith) h
lines_bounded {b} begun k at before st (l ∷ ls) p h =
    let short = content_short l in
    step_bounded {c = b + 5 * length (without_crs l)} (length (records_bytes before)) before (read_line begun (k + 1) at (without_crs l) st)
    (λ (r : Result). read_lines (begun || is_record (kind_of (without_crs l))) (k + 1) (at + length l + 1) (before ++ r.records) r.state ls) refl (omega arith)
    (line_holds begun (k + 1) at (without_crs l) st h)
    (λ (r : Result) (g : Holds (b + 5 * length (without_crs l)) (length (records_bytes (before ++ r.records))) r.state).
    lines_bounded {b = b + 5 * length (without_crs l)} (begun || is_record (kind_of (without_crs l))) (k + 1) (at + length l + 1) (before ++ r.records) r.state ls (omega arith) g)

pub start_holds : Holds 0 (length (records_bytes [])) start
unfolding any_noted
start_holds = record {
  size = omega (arith, bytes_none);
  notes_few = omega arith;
  notices_few = omega arith;
  parts_few = omega arith;
  closed = omega arith;
}

-- "Is the text at most 67,108,864 bytes?"
text_bounded : (text : List ℕ) → Bounded (read_text text)
unfolding read_text
text_bounded text = go (leb (length text) 67108864) (eqb (utf8_length text) (length text)) refl
  where
    go : (x y : Bool) → leb (length text) 67108864 ≡ x
        → Bounded (cond x (cond y (read_lines false 0 0 [] start (lines_of text)) (refusal 2 0 (utf8_length text))) (refusal 1 0 (length text)))
    go true true e = lines_bounded false 0 0 [] start (lines_of text) (omega (arith, pieces_total 10 text, leb-true (length text) 67108864 e)) start_holds
    go true false e = tt
    go false y e = tt

pub extent : (text : List ℕ) (parts notes : ℕ) (rs : List Record) → read_text text ≡ accepted parts notes rs → Extent parts notes rs
extent text parts notes rs e = rw e at (text_bounded text)

-- "13, figure the length needed (under 4,294,967,296)"
pub sheet_length : (text : List ℕ) (parts notes : ℕ) (rs : List Record) → read_text text ≡ accepted parts notes rs
    → length (sheet_bytes parts notes rs) < 2 ^ 32
unfolding sheet_bytes
sheet_length text parts notes rs e =
    let h : Head = record { parts = parts; length = 16 + length (records_bytes rs); notes = notes } in
    omega (arith, (extent text parts notes rs e).long, length-append (head_bytes h) (records_bytes rs), head_length h)
