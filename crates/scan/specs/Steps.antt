-- What one pass over a token collects, and how it goes on by an item.
use Rattle.std.specs.Prelude.{◌≡◌, ℕ, ◌+◌, ◌≤◌, ◌<◌, List, Bool, true, false, cond, not, ◌||◌, eqb, ltb, length, get_or, Option}
use Rattle.slices.specs.Ascii.{ascii}
use Rattle.notation.specs.Bytes.{contains}
use Rattle.pitch.specs.Pitch.{pitch_of}
use Rattle.items.specs.declared.Item.{Item}
use Rattle.items.specs.declared.Item.TheVariants.{Digits, Ratio, Letters, Blank, Mark}
use Rattle.duration.specs.declared.Value.{Value}
use Rattle.token.specs.declared.scan.Before.TheVariants.{Nothing as Nothing_before, Right, Ratio as Ratio_before}
use Rattle.token.specs.declared.scan.Given.{Given}
use Rattle.token.specs.declared.scan.Given.TheVariants.{Nothing, NoValue, Length}
use Rattle.token.specs.declared.scan.Scan.{Scan}
use Rattle.token.specs.Token.{is_nothing, passed, percent_bad, given_by, grace_by, articulation, fits, passes, is_unknown}
use Rattle.scan.specs.declared.Lengths.{Lengths}
use Rattle.scan.specs.declared.First.{First}
use Rattle.scan.specs.declared.Sounds.{Sounds}
use Rattle.scan.specs.declared.Marks.{Marks}

-- from one index to another there are only unknown marks
pub record Unknowns (token : List ℕ) (from end : ℕ) : Type 0 where
  pub on : from < end
  pub high : end ≤ length token
  pub unknown : (j : ℕ) → from ≤ j → j < end → is_unknown (get_or token j 0) ≡ true

-- ---- one item more
abbrev pub step_lengths : Lengths → Item → Lengths
step_lengths l (Digits v) = record { later = l.later; begun = true; before = Right; bad = l.bad || not (is_nothing l.before) }
step_lengths l (Ratio v) = record { later = l.later; begun = true; before = Ratio_before; bad = l.bad || (not (is_nothing l.before) || l.later) }
step_lengths l (Letters c n) = record { later = l.later; begun = true; before = passed l.before; bad = l.bad }
step_lengths l Blank = record { later = l.later || l.begun; begun = false; before = Nothing_before; bad = l.bad }
step_lengths l (Mark b) = record { later = l.later; begun = true; before = passed l.before; bad = cond (eqb b 37) (l.bad || percent_bad l.before) l.bad }

abbrev pub or_given : Given → Option Value → Given
or_given Nothing v = given_by v
or_given NoValue v = NoValue
or_given (Length w) v = Length w

unfoldable pub dots_by : ℕ → ℕ → ℕ
dots_by dots b = cond (eqb b 46) (cond (ltb dots 3) (dots + 1) dots) dots

-- `over` says that the first sub-token has ended
abbrev pub inside_first : Given → ℕ → Bool → First
inside_first given dots rest = record { begun = true; over = false; given = given; dots = dots; rest = rest }

abbrev pub ended_first : First → First
ended_first f = record { begun = f.begun; over = f.begun; given = f.given; dots = f.dots; rest = f.rest }

abbrev pub step_first : First → Item → First
step_first f (Digits v) = cond f.over f (inside_first (or_given f.given v) f.dots f.rest)
step_first f (Ratio v) = cond f.over f (inside_first (or_given f.given v) f.dots f.rest)
step_first f (Letters c n) = cond f.over f (inside_first f.given f.dots f.rest)
step_first f Blank = ended_first f
step_first f (Mark b) = cond f.over f (inside_first f.given (dots_by f.dots b) (f.rest || eqb b 114))

abbrev pub with_unknown : Sounds → ℕ → Sounds
with_unknown s n = record { sounding = s.sounding; pitches = s.pitches; signifiers = s.signifiers + n }

abbrev pub sounded : Sounds → Sounds
sounded s = record { sounding = true; pitches = s.pitches + 1; signifiers = s.signifiers }

abbrev pub step_sounds : Sounds → Item → Sounds
step_sounds s (Digits v) = s
step_sounds s (Ratio v) = s
step_sounds s (Letters c n) = cond (fits s.sounding (pitch_of c n)) (sounded s) (with_unknown s 1)
step_sounds s Blank = record { sounding = false; pitches = s.pitches; signifiers = s.signifiers }
step_sounds s (Mark b) = cond (passes s.sounding b) s (with_unknown s 1)

abbrev pub step_marks : Marks → Item → Marks
step_marks m (Digits v) = m
step_marks m (Ratio v) = m
step_marks m (Letters c n) = m
step_marks m Blank = m
step_marks m (Mark b) =
    record {
      ties = m.ties || contains b (ascii "[_");
      tied = m.tied || contains b (ascii "]_");
      slurs = m.slurs || contains b (ascii "(");
      slurred = m.slurred || contains b (ascii ")");
      grace = grace_by m.grace b;
      articulations = cond (ltb (articulation b) 5) 1 0 + m.articulations;
    }

abbrev pub no_first : First
no_first = record { begun = false; over = false; given = Nothing; dots = 0; rest = false }

abbrev pub no_marks : Marks
no_marks = record { ties = false; tied = false; slurs = false; slurred = false; grace = 0; articulations = 0 }

abbrev pub collected : Lengths → First → Sounds → Marks → Scan
collected l f s m =
    record {
      bad = l.bad;
      silent = not f.begun;
      given = f.given;
      dots = f.dots;
      rest = f.rest;
      pitches = s.pitches;
      signifiers = s.signifiers;
      ties = m.ties;
      tied = m.tied;
      slurs = m.slurs;
      slurred = m.slurred;
      grace = m.grace;
      articulations = m.articulations;
    }
