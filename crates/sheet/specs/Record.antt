-- The sheet's records and the bytes of each: document 01, "The sheet, version 1".
use Rattle.std.specs.Prelude.{ℕ, List, [], ◌∷◌, ◌++◌, cond, eqb}
use Rattle.sheet.specs.Bytes.{le2, le4}
use Rattle.sheet.specs.declared.Span.{Span}
use Rattle.sheet.specs.declared.Head.{Head}
use Rattle.sheet.specs.declared.Note.{Note}
use Rattle.sheet.specs.declared.Pitch.{Pitch}
use Rattle.sheet.specs.declared.Bar.{Bar}
use Rattle.sheet.specs.declared.Part.{Part}
use Rattle.sheet.specs.declared.End.{End}
use Rattle.sheet.specs.declared.Notice.{Notice}

-- "A span is u32 offset in the text, u32 length; empty is 0, 0"
unfoldable pub span_of : ℕ → ℕ → Span
span_of at len = cond (eqb len 0) (record { at = 0; len = 0 }) (record { at = at; len = len })

abbrev pub span_bytes : Span → List ℕ
span_bytes s = le4 s.at ++ le4 s.len

-- "Head, 16 bytes: KRN, zero, u16 version 1, u16 parts, u32 sheet length, u32 notes"
unfoldable pub head_bytes : Head → List ℕ
head_bytes h = (0x4B ∷ 0x52 ∷ 0x4E ∷ 0 ∷ []) ++ le2 1 ++ le2 h.parts ++ le4 h.length ++ le4 h.notes

-- the first byte of each record
abbrev pub note_kind : ℕ
note_kind = 1

abbrev pub bar_kind : ℕ
bar_kind = 2

abbrev pub part_kind : ℕ
part_kind = 3

abbrev pub end_kind : ℕ
end_kind = 4

abbrev pub notice_kind : ℕ
notice_kind = 5

-- "NOTE: u8 1, part, voice, value; u32 bar, u32 line; u16 column; u8 dots, flags, actual, normal, beam, zero; u32 pitches, u32 articulations"
unfoldable pub note_bytes : Note → List ℕ
note_bytes n =
    (note_kind ∷ n.part ∷ n.voice ∷ n.value ∷ [])
    ++ le4 n.bar
    ++ le4 n.line
    ++ le2 n.column
    ++ (n.dots ∷ n.flags ∷ n.actual ∷ n.normal ∷ n.beam ∷ 0 ∷ [])
    ++ le4 n.pitches
    ++ le4 n.articulations

-- "per pitch u8 step, octave, alter"
unfoldable pub pitch_bytes : Pitch → List ℕ
pitch_bytes p = p.step ∷ p.octave ∷ p.alter ∷ []

-- "BAR, 20: u8 2, part, right, left; u32 number; u8 clef, numerator, denominator, symbol, key given, fifths, mode, zero; u16 tempo, zero u16"
unfoldable pub bar_bytes : Bar → List ℕ
bar_bytes r =
    (bar_kind ∷ r.part ∷ r.right ∷ r.left ∷ [])
    ++ le4 r.number
    ++ (r.clef ∷ r.numerator ∷ r.denominator ∷ r.symbol ∷ r.key ∷ r.fifths ∷ r.mode ∷ 0 ∷ [])
    ++ le2 r.tempo
    ++ le2 0

-- "PART, 20: u8 3, part, name given, first clef; spans name, short name"
unfoldable pub part_bytes : Part → List ℕ
part_bytes p = (part_kind ∷ p.part ∷ p.named ∷ p.clef ∷ []) ++ span_bytes p.name ++ span_bytes p.short

-- "END, 32: u8 4, mode, fifths, zero, numerator, denominator, u16 tempo; spans title, composer, lyricist"
unfoldable pub end_bytes : End → List ℕ
end_bytes e =
    (end_kind ∷ e.mode ∷ e.fifths ∷ 0 ∷ e.numerator ∷ e.denominator ∷ [])
    ++ le2 e.tempo
    ++ span_bytes e.title
    ++ span_bytes e.composer
    ++ span_bytes e.lyricist

-- "NOTICE, 24: u8 5, number, u16 column, u32 line; spans value, key"
unfoldable pub notice_bytes : Notice → List ℕ
notice_bytes n = (notice_kind ∷ n.number ∷ []) ++ le2 n.column ++ le4 n.line ++ span_bytes n.value ++ span_bytes n.key

-- how many bytes follow a NOTICE: "Only for 17 the value's offset is 0 and its bytes follow"
unfoldable pub extra_length : Notice → ℕ
extra_length n = cond (eqb n.number 17) n.value.len 0

-- a record with all that follows its fixed bytes: a NOTE's pitches and articulations, and the bytes of a NOTICE's value
pub data Record : Type 0 where
  NOTE : Note → List Pitch → List ℕ → Record
  BAR : Bar → Record
  PART : Part → Record
  END : End → Record
  NOTICE : Notice → List ℕ → Record

unfoldable pub pitches_bytes : List Pitch → List ℕ
pitches_bytes [] = []
pitches_bytes (p ∷ ps) = pitch_bytes p ++ pitches_bytes ps

unfoldable pub record_bytes : Record → List ℕ
record_bytes (NOTE n ps marks) = note_bytes n ++ (pitches_bytes ps ++ marks)
record_bytes (BAR r) = bar_bytes r
record_bytes (PART p) = part_bytes p
record_bytes (END e) = end_bytes e
record_bytes (NOTICE n extra) = notice_bytes n ++ extra

unfoldable pub records_bytes : List Record → List ℕ
records_bytes [] = []
records_bytes (r ∷ rs) = record_bytes r ++ records_bytes rs
