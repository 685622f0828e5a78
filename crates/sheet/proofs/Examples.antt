-- Document 01's whole case: the sheet of `**kern`, `4c`, `*-`, in 119 bytes.
use mathlib.Core.Path.{◌≡◌, refl}
use Prim.Native.Nat.{ℕ}
use mathlib.Core.List.{List, [], ◌∷◌, ◌++◌}
use lib.ListN.{length, replicate}
use Rattle.sheet.specs.Record.{Record, NOTE, BAR, PART, END, head_bytes, note_bytes, pitch_bytes, bar_bytes, part_bytes, end_bytes, pitches_bytes, record_bytes, records_bytes}
use Rattle.sheet.specs.Player.{kind_of, head_of, note_at, bar_at, part_at, end_at, pitches_at, length_by, record_length, record_by, record_at, walk, body_of, sheet_records}
use Rattle.sheet.specs.declared.Span.{Span}
use Rattle.sheet.specs.declared.Head.{Head}
use Rattle.sheet.specs.declared.Note.{Note}

abbrev zeros : ℕ → List ℕ
zeros n = replicate n 0

-- the bytes as the document spells them
abbrev bytes : List ℕ
bytes =
    (0x4B ∷ 0x52 ∷ 0x4E ∷ 0 ∷ 1 ∷ 0 ∷ 1 ∷ 0 ∷ 0x77 ∷ 0 ∷ 0 ∷ 0 ∷ 1 ∷ 0 ∷ 0 ∷ 0 ∷ [])
    ++ (1 ∷ 0 ∷ 0 ∷ 4 ∷ 1 ∷ 0 ∷ 0 ∷ 0 ∷ 2 ∷ 0 ∷ 0 ∷ 0 ∷ 1 ∷ 0 ∷ [])
    ++ zeros 6
    ++ (1 ∷ [])
    ++ zeros 7
    ++ (0 ∷ 4 ∷ 0 ∷ [])
    ++ (2 ∷ 0 ∷ 0 ∷ 0 ∷ 1 ∷ 0 ∷ 0 ∷ 0 ∷ 0 ∷ 4 ∷ 4 ∷ 0 ∷ 1 ∷ [])
    ++ zeros 7
    ++ (3 ∷ 0 ∷ 0 ∷ 1 ∷ [])
    ++ zeros 16
    ++ (4 ∷ 0 ∷ 0 ∷ 0 ∷ 4 ∷ 4 ∷ [])
    ++ zeros 26

abbrev head : Head
head = record { parts = 1; length = 119; notes = 1 }

-- a quarter on C, octave 4, in bar 1, line 2, column 1
abbrev quarter : Note
quarter = record {
  part = 0;
  voice = 0;
  value = 4;
  bar = 1;
  line = 2;
  column = 1;
  dots = 0;
  flags = 0;
  actual = 0;
  normal = 0;
  beam = 0;
  pitches = 1;
  articulations = 0;
}

abbrev none_given : Span
none_given = record { at = 0; len = 0 }

abbrev records : List Record
records =
    NOTE quarter (record { step = 0; octave = 4; alter = 0 } ∷ []) []
    ∷ BAR (record {
      part = 0;
      right = 0;
      left = 0;
      number = 1;
      clef = 0;
      numerator = 4;
      denominator = 4;
      symbol = 0;
      key = 1;
      fifths = 0;
      mode = 0;
      tempo = 0;
    })
    ∷ PART (record { part = 0; named = 0; clef = 1; name = none_given; short = none_given })
    ∷ END (record {
      mode = 0;
      fifths = 0;
      numerator = 4;
      denominator = 4;
      tempo = 0;
      title = none_given;
      composer = none_given;
      lyricist = none_given;
    })
    ∷ []

pub whole_written : head_bytes head ++ records_bytes records ≡ bytes
unfolding head_bytes note_bytes pitch_bytes bar_bytes part_bytes end_bytes pitches_bytes record_bytes records_bytes
whole_written = refl

pub whole_length : length bytes ≡ 119
whole_length = refl

pub whole_head : head_of bytes ≡ head
unfolding head_of
whole_head = refl

pub whole_read : sheet_records bytes ≡ records
unfolding kind_of head_of note_at bar_at part_at end_at pitches_at length_by record_length record_by record_at walk body_of sheet_records
whole_read = refl
