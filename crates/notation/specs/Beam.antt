-- The beam of a voice.
use Rattle.std.specs.Prelude.{ℕ, List, Bool, true, false}
use Rattle.notation.specs.Bytes.{contains}
use Rattle.notation.specs.declared.beam.Mark.{Mark}
use Rattle.notation.specs.declared.beam.Mark.TheVariants.{None, Begin, Continue, End}
use Rattle.notation.specs.declared.beam.Beamed.{Beamed}
use Rattle.notation.specs.declared.beam.Letters.{Letters}

-- "beam (0 None, 1 Begin, 2 Continue, 3 End)"
abbrev pub beam_number : Mark → ℕ
beam_number None = 0
beam_number Begin = 1
beam_number Continue = 2
beam_number End = 3

-- a note's mark, and whether the beam is held after it
abbrev pub marked : Mark → Bool → Beamed
marked m held = record { mark = m; state = record { held = held } }

-- `apply_beam`: whether the beam is held, whether L and whether J stand in the token
abbrev pub beamed : Bool → Bool → Bool → Beamed
beamed held true true = marked None false
beamed held true false = marked Begin true
beamed true false true = marked End false
beamed true false false = marked Continue true
beamed false false ends = marked None false

-- L (76) and J (74), anywhere in the token
abbrev pub letters_of : List ℕ → Letters
letters_of token = record { starts = contains 76 token; ends = contains 74 token }
