-- The records whose numbers have room in the sheet: each within its width, and counts that say what follows.
use Rattle.std.specs.Prelude.{◌≡◌, ℕ, ◌<◌, ◌^◌, List, [], ◌∷◌, length}
use Rattle.sheet.specs.Record.{Record, NOTE, BAR, PART, END, NOTICE, extra_length}
use Rattle.sheet.specs.declared.Span.{Span}
use Rattle.sheet.specs.declared.Head.{Head}
use Rattle.sheet.specs.declared.Note.{Note}
use Rattle.sheet.specs.declared.Pitch.{Pitch}
use Rattle.sheet.specs.declared.Bar.{Bar}
use Rattle.sheet.specs.declared.Part.{Part}
use Rattle.sheet.specs.declared.End.{End}
use Rattle.sheet.specs.declared.Notice.{Notice}

-- "u8, u16, u32 are widths"
abbrev pub U8 : ℕ → Type 0
U8 n = n < 2 ^ 8

abbrev pub U16 : ℕ → Type 0
U16 n = n < 2 ^ 16

abbrev pub U32 : ℕ → Type 0
U32 n = n < 2 ^ 32

-- P holds of each element
abbrev pub All : {A : Type 0} → (A → Type 0) → List A → Type 0
All P [] = Unit
All P (x ∷ xs) = P x × All P xs

abbrev pub SpanFits : Span → Type 0
SpanFits s = U32 s.at × U32 s.len

pub record HeadFits (h : Head) : Type 0 where
  pub parts : U16 h.parts
  pub length : U32 h.length
  pub notes : U32 h.notes

abbrev pub PitchFits : Pitch → Type 0
PitchFits p = All U8 (p.step ∷ p.octave ∷ p.alter ∷ [])

pub record NoteFits (n : Note) (ps : List Pitch) (marks : List ℕ) : Type 0 where
  pub bytes : All U8 (n.part ∷ n.voice ∷ n.value ∷ n.dots ∷ n.flags ∷ n.actual ∷ n.normal ∷ n.beam ∷ [])
  pub column : U16 n.column
  pub numbers : All U32 (n.bar ∷ n.line ∷ n.pitches ∷ n.articulations ∷ [])
  pub pitches : n.pitches ≡ length ps
  pub articulations : n.articulations ≡ length marks
  pub each_pitch : All PitchFits ps
  pub each_articulation : All U8 marks

pub record BarFits (r : Bar) : Type 0 where
  pub bytes : All U8 (r.part ∷ r.right ∷ r.left ∷ r.clef ∷ r.numerator ∷ r.denominator ∷ r.symbol ∷ r.key ∷ r.fifths ∷ r.mode ∷ [])
  pub tempo : U16 r.tempo
  pub number : U32 r.number

pub record PartFits (p : Part) : Type 0 where
  pub bytes : All U8 (p.part ∷ p.named ∷ p.clef ∷ [])
  pub spans : All SpanFits (p.name ∷ p.short ∷ [])

pub record EndFits (e : End) : Type 0 where
  pub bytes : All U8 (e.mode ∷ e.fifths ∷ e.numerator ∷ e.denominator ∷ [])
  pub tempo : U16 e.tempo
  pub spans : All SpanFits (e.title ∷ e.composer ∷ e.lyricist ∷ [])

pub record NoticeFits (n : Notice) (extra : List ℕ) : Type 0 where
  pub byte : U8 n.number
  pub column : U16 n.column
  pub line : U32 n.line
  pub spans : All SpanFits (n.value ∷ n.key ∷ [])
  pub follows : length extra ≡ extra_length n
  pub each_byte : All U8 extra

abbrev pub Fits : Record → Type 0
Fits (NOTE n ps marks) = NoteFits n ps marks
Fits (BAR r) = BarFits r
Fits (PART p) = PartFits p
Fits (END e) = EndFits e
Fits (NOTICE n extra) = NoticeFits n extra
