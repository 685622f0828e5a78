-- A whole text: its questions in their order, its lines, the end, and the sheet.
use Rattle.std.specs.Prelude.{ℕ, ◌+◌, Bool, true, false, cond, ◌||◌, List, [], ◌∷◌, ◌++◌, reverse, map, eqb, leb, length}
use Rattle.slices.specs.Store.{stored}
use Rattle.utf8.specs.Utf8.{utf8_length}
use Rattle.lines.specs.Lines.{lines_of, without_crs, kind_of}
use Rattle.sheet.specs.Record.{Record, PART, END, head_bytes, records_bytes}
use Rattle.reading.specs.State.{State, Result, refused, goes, ends, start, fresh_part}
use Rattle.reading.specs.declared.Part.{Part}
use Rattle.reading.specs.Bars.{any_noted, closing}
use Rattle.reading.specs.Notices.{quiet}
use Rattle.reading.specs.Records.{read_line, is_record}

-- what a text comes to: a refusal with number, line and figure, or the records of its sheet, with the numbers of parts and notes
pub data Answer : Type 0 where
  refusal : ℕ → ℕ → ℕ → Answer
  accepted : ℕ → ℕ → List Record → Answer

-- ---- the end

-- "PART, 20: u8 3, part, name given, first clef (else 1); spans name, short name"
abbrev pub part_record : Part → Record
part_record p = PART (record {
  part = p.current.part;
  named = p.named;
  clef = cond (eqb p.first.clef 0) 1 p.first.clef;
  name = p.name;
  short = p.short;
})

unfoldable pub last_part : Part → List Part → Part
last_part d [] = d
last_part d (p ∷ ps) = last_part p ps

-- "Meter and key are bar 1's in the highest part."
abbrev pub end_record : State → Record
end_record st =
    let b = (last_part (fresh_part 0) st.parts).first in
    END (record {
      mode = b.mode;
      fifths = b.fifths;
      numerator = b.numerator;
      denominator = b.denominator;
      tempo = st.tempo;
      title = st.title;
      composer = st.composer;
      lyricist = st.lyricist;
    })

-- "The end of the text closes likewise, both sides Normal"
unfoldable pub last_closing : State → Result
last_closing st = cond (any_noted st.parts) (closing 0 0 st) (quiet st)

-- "then PART by falling part, then END"
unfoldable pub last_records : State → List Record
last_records st = map part_record (reverse st.parts) ++ (end_record st ∷ [])

-- questions 11 and 12
unfoldable pub finish : Bool → List Record → State → Answer
finish begun before st =
    let r = last_closing st in
    cond begun
    (cond (eqb st.notes 0) (refusal 12 0 0)
    (accepted (length st.parts) st.notes (before ++ (r.records ++ last_records r.state))))
    (refusal 11 0 0)

-- ---- the lines

-- the lines from the one of number k + 1 on, which begins at an offset; `before` are the records so far
unfoldable pub read_lines : Bool → ℕ → ℕ → List Record → State → List (List ℕ) → Answer
read_lines begun k at before st [] = finish begun before st
read_lines begun k at before st (l ∷ ls) =
    let line = without_crs l in
    elim (read_line begun (k + 1) at line st) [
      | refused n m f ↦ refusal n m f
      | goes r ↦ read_lines (begun || is_record (kind_of line)) (k + 1) (at + length l + 1) (before ++ r.records) r.state ls
      | ends r ↦ finish true (before ++ r.records) r.state
    ]

-- questions 1 and 2, then the lines
unfoldable pub read_text : List ℕ → Answer
read_text text =
    cond (leb (length text) 67108864)
    (cond (eqb (utf8_length text) (length text)) (read_lines false 0 0 [] start (lines_of text)) (refusal 2 0 (utf8_length text)))
    (refusal 1 0 (length text))

-- ---- the sheet and the buffer

unfoldable pub sheet_bytes : ℕ → ℕ → List Record → List ℕ
sheet_bytes parts notes rs =
    let body = records_bytes rs in
    head_bytes (record { parts = parts; length = 16 + length body; notes = notes }) ++ body

-- question 13, and what number, line and figure are given: 0, 0 and the sheet's length for an acceptance
abbrev pub answered : Answer → ℕ → ℕ × ℕ × ℕ
answered (refusal n l f) room = (n, l, f)
answered (accepted parts notes rs) room =
    let long = length (sheet_bytes parts notes rs) in cond (leb long room) (0, 0, long) (13, 0, long)

-- "unchanged after a refusal. After an acceptance it holds the sheet first and its old bytes behind"
abbrev pub laid : Answer → List ℕ → List ℕ
laid (refusal n l f) old = old
laid (accepted parts notes rs) old = stored old (sheet_bytes parts notes rs)

unfoldable pub answer_of : List ℕ → List ℕ → ℕ × ℕ × ℕ
answer_of text old = answered (read_text text) (length old)

unfoldable pub buffer_of : List ℕ → List ℕ → List ℕ
buffer_of text old = laid (read_text text) old
