-- Star records: interpretations column by column, then the next row.
use Rattle.std.specs.Prelude.{ℕ, suc, ◌+◌, ◌-◌, Bool, true, false, cond, ◌||◌, List, [], ◌∷◌, map, eqb, length, Ok, Err}
use Rattle.std.specs.Int.{w8, cast_unsigned}
use Rattle.interpretation.specs.Clef.{clef_number}
use Rattle.interpretation.specs.Key.{mode_number}
use Rattle.interpretation.specs.Meter.{symbol_number}
use Rattle.interpretation.specs.Unsupported.{notice_number, Says}
use Rattle.interpretation.specs.Interpretation.{interpretation_of}
use Rattle.interpretation.specs.declared.Interpretation.{Interpretation}
use Rattle.interpretation.specs.declared.Interpretation.TheVariants.{Nothing, Clef, Key, Meter, Symbol, Tempo, Name, ShortName, Mode}
use Rattle.paths.specs.declared.PathToken.{PathToken}
use Rattle.paths.specs.declared.PathToken.TheVariants.{Split, Join, Exchange, End, Add, Other}
use Rattle.paths.specs.Token.{path_token}
use Rattle.paths.specs.Trace.{exchanges_right, exchanges_left}
use Rattle.paths.specs.declared.Spine.{Spine}
use Rattle.paths.specs.declared.Spine.TheVariants.{Line, Branch, Outside}
use Rattle.paths.specs.Voices.{Outcome, next, mixed, voiceless, wide, step_row}
use Rattle.sheet.specs.Record.{span_of}
use Rattle.sheet.specs.declared.Bar.{Bar}
use Rattle.sheet.specs.declared.Span.{Span}
use Rattle.reading.specs.State.{State, Result, Step, refused, goes, part_at, with_part, with_row, with_tempo}
use Rattle.reading.specs.declared.Part.{Part}
use Rattle.reading.specs.Notices.{Token, span_of_token, quiet, after, notify}

-- ---- what an interpretation sets, as `apply_interpretation` sets it

-- the part's bar with a clef, a key, a meter, a sign, a tempo, a mode
abbrev pub with_clef : Bar → ℕ → Bar
with_clef b clef = record {
  part = b.part;
  right = b.right;
  left = b.left;
  number = b.number;
  clef = clef;
  numerator = b.numerator;
  denominator = b.denominator;
  symbol = b.symbol;
  key = b.key;
  fifths = b.fifths;
  mode = b.mode;
  tempo = b.tempo;
}

abbrev pub with_key : Bar → ℕ → ℕ → Bar
with_key b fifths mode = record {
  part = b.part;
  right = b.right;
  left = b.left;
  number = b.number;
  clef = b.clef;
  numerator = b.numerator;
  denominator = b.denominator;
  symbol = b.symbol;
  key = 1;
  fifths = fifths;
  mode = mode;
  tempo = b.tempo;
}

abbrev pub with_meter : Bar → ℕ → ℕ → Bar
with_meter b numerator denominator = record {
  part = b.part;
  right = b.right;
  left = b.left;
  number = b.number;
  clef = b.clef;
  numerator = numerator;
  denominator = denominator;
  symbol = b.symbol;
  key = b.key;
  fifths = b.fifths;
  mode = b.mode;
  tempo = b.tempo;
}

abbrev pub with_symbol : Bar → ℕ → Bar
with_symbol b symbol = record {
  part = b.part;
  right = b.right;
  left = b.left;
  number = b.number;
  clef = b.clef;
  numerator = b.numerator;
  denominator = b.denominator;
  symbol = symbol;
  key = b.key;
  fifths = b.fifths;
  mode = b.mode;
  tempo = b.tempo;
}

abbrev pub with_bar_tempo : Bar → ℕ → Bar
with_bar_tempo b tempo = record {
  part = b.part;
  right = b.right;
  left = b.left;
  number = b.number;
  clef = b.clef;
  numerator = b.numerator;
  denominator = b.denominator;
  symbol = b.symbol;
  key = b.key;
  fifths = b.fifths;
  mode = b.mode;
  tempo = tempo;
}

-- a later mode changes a key that the bar has
abbrev pub with_mode : Bar → ℕ → Bar
with_mode b mode = record {
  part = b.part;
  right = b.right;
  left = b.left;
  number = b.number;
  clef = b.clef;
  numerator = b.numerator;
  denominator = b.denominator;
  symbol = b.symbol;
  key = b.key;
  fifths = b.fifths;
  mode = cond (eqb b.key 1) mode 0;
  tempo = b.tempo;
}

abbrev pub barring : Part → Bar → Part
barring p bar = record {
  named = p.named;
  name = p.name;
  short = p.short;
  mode = p.mode;
  beams = p.beams;
  noted = p.noted;
  current = bar;
  first = p.first;
}

abbrev pub naming : Part → Span → Part
naming p name = record {
  named = 1;
  name = name;
  short = p.short;
  mode = p.mode;
  beams = p.beams;
  noted = p.noted;
  current = p.current;
  first = p.first;
}

abbrev pub shortening : Part → Span → Part
shortening p short = record {
  named = p.named;
  name = p.name;
  short = short;
  mode = p.mode;
  beams = p.beams;
  noted = p.noted;
  current = p.current;
  first = p.first;
}

abbrev pub moding : Part → ℕ → Part
moding p mode = record {
  named = p.named;
  name = p.name;
  short = p.short;
  mode = mode;
  beams = p.beams;
  noted = p.noted;
  current = with_mode p.current mode;
  first = p.first;
}

-- the first tempo that is read stays the text's
abbrev pub first_tempo : State → ℕ → State
first_tempo st bpm = with_tempo st (cond (eqb st.tempo 0) bpm st.tempo)

-- the name is what stands behind `*I"` or `*I'`
abbrev pub name_span : Token → Span
name_span t = span_of (t.at + 3) (length t.bytes - 3)

-- the numbers are those of the sheet, the fifths in two's complement
abbrev pub applied : Interpretation → Token → ℕ → Part → State → Result
applied Nothing t p part st = quiet st
applied (Clef clef) t p part st = quiet (with_part st p (barring part (with_clef part.current (clef_number clef))))
applied (Key fifths) t p part st = quiet (with_part st p (barring part (with_key part.current (cast_unsigned w8 fifths) part.mode)))
applied (Meter n d) t p part st = quiet (with_part st p (barring part (with_meter part.current n d)))
applied (Symbol s) t p part st = quiet (with_part st p (barring part (with_symbol part.current (symbol_number s))))
applied (Tempo bpm) t p part st = quiet (first_tempo (with_part st p (barring part (with_bar_tempo part.current bpm))) bpm)
applied Name t p part st = quiet (with_part st p (naming part (name_span t)))
applied ShortName t p part st = quiet (with_part st p (shortening part (name_span t)))
applied (Mode mode) t p part st = quiet (with_part st p (moding part (mode_number mode)))

-- what a token in column j of line k comes to: it is applied, or its notice says why not
abbrev pub heeded : Says → ℕ → ℕ → Token → ℕ → Part → State → Result
heeded (Ok what) k j t p part st = applied what t p part st
heeded (Err why) k j t p part st = notify (notice_number why) k j (span_of_token t) st

-- an ordinary interpretation in column j of line k: nothing outside kern
abbrev pub interpret : Spine → ℕ → ℕ → Token → State → Result
interpret (Line p v) k j t st = heeded (interpretation_of t.bytes (part_at st p).noted) k j t p (part_at st p) st
interpret (Branch p) k j t st = quiet st
interpret Outside k j t st = quiet st

-- "`*+` adds a spine outside kern on the right (7)"; a `*x` "left over is an ordinary interpretation"
abbrev pub column_by : PathToken → Bool → Spine → ℕ → ℕ → Token → State → Result
column_by Split paired s k j t st = quiet st
column_by Join paired s k j t st = quiet st
column_by Exchange true s k j t st = quiet st
column_by Exchange false s k j t st = interpret s k j t st
column_by End paired s k j t st = quiet st
column_by Add paired s k j t st = notify 7 k j (span_of_token t) st
column_by Other paired s k j t st = interpret s k j t st

abbrev pub paired : List PathToken → ℕ → Bool
paired ts i = exchanges_right ts i || exchanges_left ts i

-- column by column, from column i (from 0) on; ps are the record's path tokens
unfoldable pub read_columns : List PathToken → ℕ → ℕ → List Spine → List Token → State → Result
read_columns ps k i [] ts st = quiet st
read_columns ps k i (s ∷ row) [] st = quiet st
read_columns ps k i (s ∷ row) (t ∷ ts) st =
    after (column_by (path_token t.bytes) (paired ps i) s k (i + 1) t st) (read_columns ps k (suc i) row ts)

-- "17, .. a run of `*v` mixes origins; figure the first such run's first column"; "8, figure the part of the first that doesn't"; "9, figure their count"
abbrev pub to_row : ℕ → Result → Outcome → Step
to_row k r (next row) = goes (record { state = with_row r.state row; records = r.records })
to_row k r (mixed c) = refused 17 k c
to_row k r (voiceless p) = refused 8 k p
to_row k r (wide n) = refused 9 k n

unfoldable pub read_star : ℕ → List Token → State → Step
read_star k ts st =
    let ps = map (λ (t : Token). path_token t.bytes) ts in
    to_row k (read_columns ps k 0 st.row ts st) (step_row st.row ps)
