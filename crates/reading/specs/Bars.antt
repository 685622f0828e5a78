-- Barlines and closings.
use Rattle.std.specs.Prelude.{ℕ, ◌+◌, Bool, true, false, cond, ◌||◌, List, [], ◌∷◌, map, eqb}
use Rattle.notation.specs.Barline.{barlines_of, barline_number}
use Rattle.paths.specs.declared.Spine.{Spine}
use Rattle.paths.specs.declared.Spine.TheVariants.{Line, Branch, Outside}
use Rattle.sheet.specs.Record.{BAR}
use Rattle.sheet.specs.declared.Bar.{Bar}
use Rattle.reading.specs.State.{State, Result, with_parts, with_bars}
use Rattle.reading.specs.declared.Part.{Part}
use Rattle.reading.specs.Notices.{Token, quiet}

unfoldable pub any_noted : List Part → Bool
any_noted [] = false
any_noted (p ∷ ps) = p.noted || any_noted ps

-- "Bar 1 fills in meter and key as `close_measures` does": 4/4 and no sharps in major, where none is given
abbrev pub filled_meter : Bar → ℕ → ℕ
filled_meter b n = cond (eqb b.numerator 0) 4 n

-- the bar as it closes: its right barline, its number, and in bar 1 what is filled in
abbrev pub closed_bar : ℕ → ℕ → Bar → Bar
closed_bar right number b = record {
  part = b.part;
  right = right;
  left = b.left;
  number = number;
  clef = b.clef;
  numerator = cond (eqb number 1) (filled_meter b b.numerator) b.numerator;
  denominator = cond (eqb number 1) (filled_meter b b.denominator) b.denominator;
  symbol = b.symbol;
  key = cond (eqb number 1) 1 b.key;
  fifths = b.fifths;
  mode = b.mode;
  tempo = b.tempo;
}

-- the next bar, all unset but its left barline
abbrev pub next_bar : ℕ → ℕ → Bar
next_bar p left = record {
  part = p;
  right = 0;
  left = left;
  number = 0;
  clef = 0;
  numerator = 0;
  denominator = 0;
  symbol = 0;
  key = 0;
  fifths = 0;
  mode = 0;
  tempo = 0;
}

abbrev pub closed_part : ℕ → ℕ → ℕ → Part → Part
closed_part right left number p = record {
  named = p.named;
  name = p.name;
  short = p.short;
  mode = p.mode;
  beams = p.beams;
  noted = false;
  current = next_bar p.current.part left;
  first = cond (eqb number 1) (closed_bar right number p.current) p.first;
}

-- "every part closes a bar": "a closing's BARs by rising part"
unfoldable pub closing : ℕ → ℕ → State → Result
closing right left st = record {
  state = with_bars (with_parts st (map (closed_part right left (st.bars + 1)) st.parts)) (st.bars + 1);
  records = map (λ (p : Part). BAR (closed_bar right (st.bars + 1) p.current)) st.parts;
}

-- "else only a RepeatStart is kept"
abbrev pub left_anew : ℕ → Part → Part
left_anew left p = record {
  named = p.named;
  name = p.name;
  short = p.short;
  mode = p.mode;
  beams = p.beams;
  noted = p.noted;
  current = record {
    part = p.current.part;
    right = p.current.right;
    left = left;
    number = p.current.number;
    clef = p.current.clef;
    numerator = p.current.numerator;
    denominator = p.current.denominator;
    symbol = p.current.symbol;
    key = p.current.key;
    fifths = p.current.fifths;
    mode = p.current.mode;
    tempo = p.current.tempo;
  };
  first = p.first;
}

unfoldable pub keep_left : ℕ → State → State
keep_left left st = cond (eqb left 0) st (with_parts st (map (left_anew left) st.parts))

abbrev pub is_kern_spine : Spine → Bool
is_kern_spine (Line p v) = true
is_kern_spine (Branch p) = true
is_kern_spine Outside = false

-- "The first kern spine's token (else the first token) decides a `=` record."
unfoldable pub deciding_or : List ℕ → List Spine → List Token → List ℕ
deciding_or other [] ts = other
deciding_or other (s ∷ row) [] = other
deciding_or other (s ∷ row) (t ∷ ts) = cond (is_kern_spine s) t.bytes (deciding_or other row ts)

unfoldable pub deciding : List Spine → List Token → List ℕ
deciding row [] = []
deciding row (t ∷ ts) = deciding_or t.bytes row (t ∷ ts)

-- "If any note came since the last closing, every part closes a bar"
unfoldable pub close_with : ℕ → ℕ → State → Result
close_with right left st = cond (any_noted st.parts) (closing right left st) (quiet (keep_left left st))

unfoldable pub read_bar : List Token → State → Result
read_bar ts st =
    let b = barlines_of (deciding st.row ts) in close_with (barline_number b.right) (barline_number b.left) st
