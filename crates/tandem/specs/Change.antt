-- What an interpretation changes in its part, apart from the state.
use Rattle.std.specs.Int.{w8, cast_unsigned}
use Rattle.interpretation.specs.declared.Interpretation.{Interpretation}
use Rattle.interpretation.specs.declared.Interpretation.TheVariants.{Nothing, Clef, Key, Meter, Symbol, Tempo, Name, ShortName, Mode}
use Rattle.interpretation.specs.Clef.{clef_number}
use Rattle.interpretation.specs.Key.{mode_number}
use Rattle.interpretation.specs.Meter.{symbol_number}
use Rattle.sheet.specs.declared.Span.{Span}
use Rattle.reading.specs.declared.Part.{Part}
use Rattle.tandem.specs.declared.Setting.{Setting}
use Rattle.tandem.specs.declared.Setting.TheVariants as setting
use Rattle.reading.specs.Star.{barring, naming, shortening, moding, with_clef, with_key, with_meter, with_symbol, with_bar_tempo}

-- the part after an interpretation, whose name, if it is one, stands at a span
abbrev pub changed : Interpretation → Span → Part → Part
changed Nothing name p = p
changed (Clef clef) name p = barring p (with_clef p.current (clef_number clef))
changed (Key fifths) name p = barring p (with_key p.current (cast_unsigned w8 fifths) p.mode)
changed (Meter n d) name p = barring p (with_meter p.current n d)
changed (Symbol s) name p = barring p (with_symbol p.current (symbol_number s))
changed (Tempo bpm) name p = barring p (with_bar_tempo p.current bpm)
changed Name name p = naming p name
changed ShortName name p = shortening p name
changed (Mode mode) name p = moding p (mode_number mode)

-- the part after a setting of any numbers, as the sheet has them
abbrev pub set_by : Setting → Span → Part → Part
set_by setting.Nothing name p = p
set_by (setting.Clef clef) name p = barring p (with_clef p.current clef)
set_by (setting.Key fifths) name p = barring p (with_key p.current fifths p.mode)
set_by (setting.Meter n d) name p = barring p (with_meter p.current n d)
set_by (setting.Symbol s) name p = barring p (with_symbol p.current s)
set_by (setting.Tempo bpm) name p = barring p (with_bar_tempo p.current bpm)
set_by setting.Name name p = naming p name
set_by setting.ShortName name p = shortening p name
set_by (setting.Mode mode) name p = moding p mode
