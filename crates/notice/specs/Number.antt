-- The number of each notice.
use Rattle.std.specs.Prelude.{ℕ}
use Rattle.notice.specs.declared.kind.Code.{Code}
use Rattle.notice.specs.declared.kind.Code.TheVariants.{UnsupportedReference, UnsupportedSpine, UnsupportedSegment, TrailingEmptyField, MissingNullInterpretation, MissingBarlineField, UnsupportedSpineAdd, UnsupportedMidMeasureChange, UnsupportedClef, MalformedKeySignature, NonStandardKeySignature, UnsupportedMeter, UnsupportedMensurationSign, UnsupportedTempo, UnsupportedInterpretation, RationalDuration, UnsupportedSignifier, UnsupportedToken, UnsupportedDuration, InferredDuration, MissingDuration}

-- "1 reference record", "2 spine not kern", "3 record after all spines ended", on to "21 missing length"
abbrev pub number_of : Code → ℕ
number_of UnsupportedReference = 1
number_of UnsupportedSpine = 2
number_of UnsupportedSegment = 3
number_of TrailingEmptyField = 4
number_of MissingNullInterpretation = 5
number_of MissingBarlineField = 6
number_of UnsupportedSpineAdd = 7
number_of UnsupportedMidMeasureChange = 8
number_of UnsupportedClef = 9
number_of MalformedKeySignature = 10
number_of NonStandardKeySignature = 11
number_of UnsupportedMeter = 12
number_of UnsupportedMensurationSign = 13
number_of UnsupportedTempo = 14
number_of UnsupportedInterpretation = 15
number_of RationalDuration = 16
number_of UnsupportedSignifier = 17
number_of UnsupportedToken = 18
number_of UnsupportedDuration = 19
number_of InferredDuration = 20
number_of MissingDuration = 21
