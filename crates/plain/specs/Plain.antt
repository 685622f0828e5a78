-- Tokens of the usual shape, and what is known of one.
use Rattle.std.specs.Prelude.{◌≡◌, ℕ, ◌-◌, true, false, cond, List, [], ◌∷◌, Option, Some, Ok}
use Rattle.slices.specs.Split.{piece_at}
use Rattle.lines.specs.Lines.{piece_end}
use Rattle.lines.specs.Tokens.{is_null}
use Rattle.duration.specs.declared.Value.{Value}
use Rattle.notation.specs.Beam.{letters_of}
use Rattle.token.specs.Scan.{scan_of}
use Rattle.token.specs.Outcome.{outcome_of, reported, note_pitches}
use Rattle.plain.specs.declared.Plain.{Plain}
use Rattle.plain.specs.declared.Shape.{Shape}
use Rattle.plain.specs.declared.Shape.TheVariants.{Null, Note}

-- a token that gives a note, whatever its peers give; a rest has no pitch, any other note one; only an unknown one has signifiers to report
pub record PlainToken (token : List ℕ) (p : Plain) : Type 0 where
  pub outcome : (inferred : Option Value) → outcome_of (scan_of token) inferred ≡ Ok (Some p.note)
  pub reports : p.unknown ≡ false → reported token ≡ []
  pub sure : p.note.inferred ≡ false
  pub letters : letters_of token ≡ record { starts = p.starts; ends = p.ends }
  pub pitches : note_pitches token ≡ cond p.note.rest [] (p.tone ∷ [])
  pub counted : p.note.pitches ≡ cond p.note.rest 0 1
  pub sounds : is_null token ≡ false

-- what is said of the token of a line that begins at an index: that it is null, or its note; and where it ends
abbrev pub ShapeAt : List ℕ → ℕ → Shape → Type 0
ShapeAt line from (Null end) = (end ≡ piece_end 9 line from) × (is_null (piece_at line from (end - from)) ≡ true)
ShapeAt line from (Note p) = (p.end ≡ piece_end 9 line from) × PlainToken (piece_at line from (p.end - from)) p
