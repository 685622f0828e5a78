-- The player: the records of a sheet, read from its bytes alone.
use Rattle.std.specs.Prelude.{ℕ, zero, suc, ◌+◌, ◌-◌, ◌*◌, List, [], ◌∷◌, cond, eqb, length, take, drop}
use Rattle.std.proofs.Math.Option.{Option, none, some}
use Rattle.sheet.specs.Bytes.{read1, read2, read4}
use Rattle.sheet.specs.Record.{Record, NOTE, BAR, PART, END, NOTICE, note_kind, bar_kind, part_kind, end_kind, notice_kind, extra_length}
use Rattle.sheet.specs.declared.Span.{Span}
use Rattle.sheet.specs.declared.Head.{Head}
use Rattle.sheet.specs.declared.Note.{Note}
use Rattle.sheet.specs.declared.Pitch.{Pitch}
use Rattle.sheet.specs.declared.Bar.{Bar}
use Rattle.sheet.specs.declared.Part.{Part}
use Rattle.sheet.specs.declared.End.{End}
use Rattle.sheet.specs.declared.Notice.{Notice}

-- what the first byte says
pub data Kind : Type 0 where
  is_note : Kind
  is_bar : Kind
  is_part : Kind
  is_end : Kind
  is_notice : Kind
  unknown : Kind

unfoldable pub kind_of : ℕ → Kind
kind_of b =
    cond (eqb b note_kind) is_note
    (cond (eqb b bar_kind) is_bar (cond (eqb b part_kind) is_part (cond (eqb b end_kind) is_end (cond (eqb b notice_kind) is_notice unknown))))

-- the fields of each record, at their offsets in the bytes that it begins
unfoldable pub head_of : List ℕ → Head
head_of s = record { parts = read2 s 6; length = read4 s 8; notes = read4 s 12 }

abbrev pub span_at : List ℕ → ℕ → Span
span_at s i = record { at = read4 s i; len = read4 s (i + 4) }

unfoldable pub note_at : List ℕ → Note
note_at s = record {
  part = read1 s 1;
  voice = read1 s 2;
  value = read1 s 3;
  bar = read4 s 4;
  line = read4 s 8;
  column = read2 s 12;
  dots = read1 s 14;
  flags = read1 s 15;
  actual = read1 s 16;
  normal = read1 s 17;
  beam = read1 s 18;
  pitches = read4 s 20;
  articulations = read4 s 24;
}

unfoldable pub bar_at : List ℕ → Bar
bar_at s = record {
  part = read1 s 1;
  right = read1 s 2;
  left = read1 s 3;
  number = read4 s 4;
  clef = read1 s 8;
  numerator = read1 s 9;
  denominator = read1 s 10;
  symbol = read1 s 11;
  key = read1 s 12;
  fifths = read1 s 13;
  mode = read1 s 14;
  tempo = read2 s 16;
}

unfoldable pub part_at : List ℕ → Part
part_at s = record { part = read1 s 1; named = read1 s 2; clef = read1 s 3; name = span_at s 4; short = span_at s 12 }

unfoldable pub end_at : List ℕ → End
end_at s = record {
  mode = read1 s 1;
  fifths = read1 s 2;
  numerator = read1 s 4;
  denominator = read1 s 5;
  tempo = read2 s 6;
  title = span_at s 8;
  composer = span_at s 16;
  lyricist = span_at s 24;
}

unfoldable pub notice_at : List ℕ → Notice
notice_at s = record { number = read1 s 1; column = read2 s 2; line = read4 s 4; value = span_at s 8; key = span_at s 16 }

-- n pitches, three bytes each
unfoldable pub pitches_at : ℕ → List ℕ → List Pitch
pitches_at zero s = []
pitches_at (suc n) s = record { step = read1 s 0; octave = read1 s 1; alter = read1 s 2 } ∷ pitches_at n (drop 3 s)

-- how long a record is, by its kind and its own counts
unfoldable pub length_by : Kind → List ℕ → ℕ
length_by is_note s = 28 + 3 * (note_at s).pitches + (note_at s).articulations
length_by is_bar s = 20
length_by is_part s = 20
length_by is_end s = 32
length_by is_notice s = 24 + extra_length (notice_at s)
length_by unknown s = 0

unfoldable pub record_length : List ℕ → ℕ
record_length s = length_by (kind_of (read1 s 0)) s

-- the record with which the bytes begin
unfoldable pub record_by : Kind → List ℕ → Option Record
record_by is_note s =
    some (NOTE (note_at s) (pitches_at (note_at s).pitches (drop 28 s)) (take (note_at s).articulations (drop (28 + 3 * (note_at s).pitches) s)))
record_by is_bar s = some (BAR (bar_at s))
record_by is_part s = some (PART (part_at s))
record_by is_end s = some (END (end_at s))
record_by is_notice s = some (NOTICE (notice_at s) (take (extra_length (notice_at s)) (drop 24 s)))
record_by unknown s = none

unfoldable pub record_at : List ℕ → Option Record
record_at s = record_by (kind_of (read1 s 0)) s

-- record by record, up to the end or an unknown kind: past the end a byte reads 0, which is no kind
unfoldable pub walk : ℕ → List ℕ → List Record
walk zero s = []
walk (suc n) s = elim (record_at s) [ none ↦ [] | some r ↦ r ∷ walk n (drop (record_length s) s) ]

-- the bytes from 16 up to the length that the head gives, whatever stands behind
unfoldable pub body_of : List ℕ → List ℕ
body_of s = take ((head_of s).length - 16) (drop 16 s)

unfoldable pub sheet_records : List ℕ → List Record
sheet_records s = walk (length (body_of s)) (body_of s)

-- a NOTE with its pitches and articulations
pub record Noted : Type 0 where
  pub note : Note
  pub pitches : List Pitch
  pub articulations : List ℕ

unfoldable pub notes_of : List Record → List Noted
notes_of [] = []
notes_of (NOTE n ps marks ∷ rs) = record { note = n; pitches = ps; articulations = marks } ∷ notes_of rs
notes_of (BAR r ∷ rs) = notes_of rs
notes_of (PART p ∷ rs) = notes_of rs
notes_of (END e ∷ rs) = notes_of rs
notes_of (NOTICE n extra ∷ rs) = notes_of rs

unfoldable pub sheet_notes : List ℕ → List Noted
sheet_notes s = notes_of (sheet_records s)
