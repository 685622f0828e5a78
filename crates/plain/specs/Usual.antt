-- The parts of a token of the usual shape: runs of bytes out of a word, and what they say.
use Rattle.std.specs.Prelude.{◌≡◌, ℕ, ◌+◌, ◌-◌, ◌*◌, ◌≤◌, ◌<◌, List, [], ◌∷◌, ◌++◌, Bool, true, false, cond, ◌&&◌, ◌||◌, eqb, ltb, length, get_or, Option, Some, None, Ok, unwrap_or}
use Rattle.std.specs.Option.{is_none}
use Rattle.slices.specs.Ascii.{ascii}
use Rattle.slices.specs.Split.{piece_at}
use Rattle.notation.specs.Bytes.{contains}
use Rattle.duration.specs.declared.Value.{Value}
use Rattle.pitch.specs.Pitch.{pitch_of, altered_by}
use Rattle.token.specs.Token.{articulation}
use Rattle.token.specs.Outcome.{noted, note_of}
use Rattle.token.specs.declared.scan.Scan.{Scan}
use Rattle.token.specs.declared.pitches.Tone.{Tone}
use Rattle.token.specs.declared.outcome.Note.{Note}
use Rattle.plain.specs.declared.Opening.{Opening}
use Rattle.plain.specs.declared.Marked.{Marked}
use Rattle.plain.specs.declared.Valued.{Valued}
use Rattle.plain.specs.declared.Sung.{Sung}
use Rattle.plain.specs.declared.Plain.{Plain}
use Rattle.plain.specs.declared.TheConstants.{SILENT}

abbrev pub digit_bytes : List ℕ
digit_bytes = ascii "0123456789"

-- the unknown marks, of those that ASCII prints
abbrev pub unknown_bytes : List ℕ
unknown_bytes = ascii "!\"$&*+,/:<=>?@HIKMNOPRSUVWXYZ\\`hijklmopsuvwxyz{|}"

-- ties, slurs, beams and articulations, and those
abbrev pub mark_bytes : List ℕ
mark_bytes = ascii "LJ[]_()'^~;Tt" ++ unknown_bytes

abbrev pub sign_bytes : List ℕ
sign_bytes = ascii "#-n"

-- whether each byte of a list stands in a word
unfoldable pub all_in : List ℕ → List ℕ → Bool
all_in word [] = true
all_in word (x ∷ xs) = contains x word && all_in word xs

-- a state carried over bytes
unfoldable pub carried : {S : Type 0} → (S → ℕ → S) → S → List ℕ → S
carried step s [] = s
carried step s (x ∷ xs) = carried step (step s x) xs

-- the bytes of a line from an index to another are all of a word
pub record Run (word line : List ℕ) (from end : ℕ) : Type 0 where
  pub low : from ≤ end
  pub high : end ≤ length line
  pub inside : all_in word (piece_at line from (end - from)) ≡ true

-- ---- marks
pub record Said : Type 0 where
  pub ties : Bool
  pub tied : Bool
  pub slurs : Bool
  pub slurred : Bool
  pub starts : Bool
  pub ends : Bool
  pub articulations : ℕ
  pub unknown : Bool

abbrev pub opened : Bool → Bool → Said
opened ties slurs =
    record { ties = ties; tied = false; slurs = slurs; slurred = false; starts = false; ends = false; articulations = 0; unknown = false }

abbrev pub said_of : Marked → Said
said_of m =
    record {
      ties = m.ties;
      tied = m.tied;
      slurs = m.slurs;
      slurred = m.slurred;
      starts = m.starts;
      ends = m.ends;
      articulations = m.articulations;
      unknown = m.unknown;
    }

-- one mark more
abbrev pub said_by : Said → ℕ → Said
said_by s b =
    record {
      ties = contains b (ascii "[_") || s.ties;
      tied = contains b (ascii "]_") || s.tied;
      slurs = contains b (ascii "(") || s.slurs;
      slurred = contains b (ascii ")") || s.slurred;
      starts = eqb b 76 || s.starts;
      ends = eqb b 74 || s.ends;
      articulations = cond (ltb (articulation b) 5) (s.articulations + 1) s.articulations;
      unknown = contains b unknown_bytes || s.unknown;
    }

-- a state carried over a run of bytes of a line
pub record Carried (S : Type 0) (step : S → ℕ → S) (word line : List ℕ) (from : ℕ) (fresh s : S) (end : ℕ) : Type 0 where
  pub run : Run word line from end
  pub same : carried step fresh (piece_at line from (end - from)) ≡ s

abbrev pub Marking : List ℕ → ℕ → Said → Said → ℕ → Type 0
Marking line from fresh s end = Carried Said said_by mark_bytes line from fresh s end

-- the number that digits write
abbrev pub digit_by : ℕ → ℕ → ℕ
digit_by n b = n * 10 + (b - 48)

abbrev pub Numbering : List ℕ → ℕ → ℕ → ℕ → Type 0
Numbering line from n end = Carried ℕ digit_by digit_bytes line from 0 n end

abbrev pub Signing : List ℕ → ℕ → ℕ → ℕ → Type 0
Signing line from alter end = Carried ℕ altered_by sign_bytes line from 128 alter end

-- ---- a rest, or a run of one letter that is a pitch with its signs
pub record PitchOf (bytes : List ℕ) (t : Tone) : Type 0 where
  pub letter : ℕ
  pub run : List ℕ
  pub signs : List ℕ
  pub parts : bytes ≡ run ++ signs
  pub letters : all_in (letter ∷ []) run ≡ true
  pub place : pitch_of letter (length run) ≡ Some (record { step = t.step; octave = t.octave })
  pub signed : all_in sign_bytes signs ≡ true
  pub alter : carried altered_by 128 signs ≡ t.alter

abbrev pub SoundOf : List ℕ → Option Tone → Type 0
SoundOf bytes None = bytes ≡ 114 ∷ []
SoundOf bytes (Some t) = PitchOf bytes t

pub record SungAt (line : List ℕ) (from : ℕ) (s : Sung) : Type 0 where
  pub low : from ≤ s.end
  pub high : s.end ≤ length line
  pub sound : SoundOf (piece_at line from (s.end - from)) s.tone

-- ---- the length
abbrev pub Parts : Value → Valued → Type 0
Parts v r = (s : Scan) → noted (Some v) s ≡ Ok (Some (note_of false r.value r.actual r.normal s))

-- ---- the note of a rest or of one pitch: a rest has no ties and no pitches
abbrev pub note_from : Valued → ℕ → Bool → Said → Note
note_from v dots rest s =
    record {
      value = v.value;
      actual = v.actual;
      normal = v.normal;
      dots = dots;
      inferred = false;
      rest = rest;
      ties = cond rest false s.ties;
      tied = cond rest false s.tied;
      slurs = s.slurs;
      slurred = s.slurred;
      grace = 0;
      pitches = cond rest 0 1;
      articulations = s.articulations;
    }

-- the end of the line, or a TAB
abbrev pub Closed : List ℕ → ℕ → Type 0
Closed line end = end < length line → get_or line end 0 ≡ 9

-- what is said of a note from its sound on
pub record Tail (line : List ℕ) (from : ℕ) (opening : Opening) (v : Valued) (dots : ℕ) (p : Plain) : Type 0 where
  pub sung : Sung
  pub said : Said
  pub sound : SungAt line from sung
  pub marks : Marking line sung.end (opened opening.ties opening.slurs) said p.end
  pub closed : Closed line p.end
  pub note : p.note ≡ note_from v dots (is_none sung.tone) said
  pub tone : p.tone ≡ unwrap_or sung.tone SILENT
  pub starts : p.starts ≡ said.starts
  pub ends : p.ends ≡ said.ends
  pub unknown : p.unknown ≡ said.unknown
