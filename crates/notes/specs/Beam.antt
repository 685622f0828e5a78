-- The beam of a voice, kept by its part.
use Rattle.std.specs.Prelude.{ℕ, Bool, true, false, get_or, set}
use Rattle.notation.specs.Beam.{beamed}
use Rattle.notation.specs.declared.beam.Beamed.{Beamed}
use Rattle.reading.specs.declared.Part.{Part}

-- the mark of a note by whether L and J stand in it, and whether the beam is held after it: "beams `apply_beam`", per part and voice
abbrev pub beam_by : Part → ℕ → Bool → Bool → Beamed
beam_by p v starts ends = beamed (get_or p.beams v false) starts ends

-- the part after it, which has a note in the bar
abbrev pub sounded_by : Part → ℕ → Bool → Bool → Part
sounded_by p v starts ends = record {
  named = p.named;
  name = p.name;
  short = p.short;
  mode = p.mode;
  beams = set p.beams v (beam_by p v starts ends).state.held;
  noted = true;
  current = p.current;
  first = p.first;
}
