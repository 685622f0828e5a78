-- A barline record's tokens as repaired, the one that decides, and closings of parts.
use Rattle.std.specs.Prelude.{ℕ, ◌+◌, ◌-◌, cond, List, [], ◌∷◌, ◌++◌, map, length, take, replicate}
use Rattle.paths.specs.declared.Spine.{Spine}
use Rattle.repair.specs.Repair.{first_of}
use Rattle.sheet.specs.Record.{Record, BAR}
use Rattle.sheet.specs.declared.Bar.{Bar}
use Rattle.sheet.specs.declared.End.{End}
use Rattle.reading.specs.State.{fresh_part}
use Rattle.reading.specs.declared.Part.{Part}
use Rattle.reading.specs.Bars.{any_noted, is_kern_spine, closed_bar, closed_part}
use Rattle.reading.specs.Text.{last_part}
use Rattle.state.specs.declared.Tally.{Tally}

-- "surplus tokens all empty are cut (4)"; "too few, at least two, first begins `=`, all identical: filled with that token (6)"
unfoldable pub filled_bars : ℕ → List (List ℕ) → List (List ℕ)
filled_bars n ts = take n ts ++ replicate (n - length ts) (first_of ts)

-- "The first kern spine's token (else the first token) decides a `=` record."
unfoldable pub deciding_in : List ℕ → List Spine → List (List ℕ) → List ℕ
deciding_in other [] ts = other
deciding_in other (s ∷ row) [] = other
deciding_in other (s ∷ row) (t ∷ ts) = cond (is_kern_spine s) t (deciding_in other row ts)

-- without a spine there is no token
unfoldable pub deciding_of : List Spine → List (List ℕ) → List ℕ
deciding_of [] ts = []
deciding_of (s ∷ row) ts = deciding_in (first_of ts) (s ∷ row) ts

-- the BAR of a part
abbrev pub bar_record : ℕ → ℕ → Part → Record
bar_record right number p = BAR (closed_bar right number p.current)

-- the counts with other bars and another place
abbrev pub tallied : Tally → ℕ → ℕ → Tally
tallied t bars at = record {
  active = t.active;
  parts = t.parts;
  bars = bars;
  notes = t.notes;
  notices = t.notices;
  tempo = t.tempo;
  title = t.title;
  composer = t.composer;
  lyricist = t.lyricist;
  at = at;
}

-- ---- the end

-- "The end of the text closes likewise, both sides Normal": the parts then, and the BARs, after so many bars
unfoldable pub last_parts : ℕ → List Part → List Part
last_parts bars ps = cond (any_noted ps) (map (closed_part 0 0 (bars + 1)) ps) ps

unfoldable pub last_bars : ℕ → List Part → List Record
last_bars bars ps = cond (any_noted ps) (map (bar_record 0 (bars + 1)) ps) []

-- END with bar 1 of a part
abbrev pub end_with : Bar → Tally → End
end_with b t = record {
  mode = b.mode;
  fifths = b.fifths;
  numerator = b.numerator;
  denominator = b.denominator;
  tempo = t.tempo;
  title = t.title;
  composer = t.composer;
  lyricist = t.lyricist;
}

abbrev pub last_end : List Part → Tally → End
last_end ps t = end_with (last_part (fresh_part 0) ps).first t
