-- What an interpretation says, or why it is not read.
use Rattle.std.specs.Prelude.{ℕ, Result}
use Rattle.interpretation.specs.declared.Interpretation.{Interpretation}
use Rattle.interpretation.specs.declared.Unsupported.{Unsupported}
use Rattle.interpretation.specs.declared.Unsupported.TheVariants.{InsideBar, OtherClef, OpenKey, OtherKey, OtherMeter, OtherSymbol, OtherTempo, Other}

-- document 01's notices 8 to 15
abbrev pub notice_number : Unsupported → ℕ
notice_number InsideBar = 8
notice_number OtherClef = 9
notice_number OpenKey = 10
notice_number OtherKey = 11
notice_number OtherMeter = 12
notice_number OtherSymbol = 13
notice_number OtherTempo = 14
notice_number Other = 15

-- what a token says, or why it is not read
abbrev pub Says : Type 0
Says = Result Interpretation Unsupported
