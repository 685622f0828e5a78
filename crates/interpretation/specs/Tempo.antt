-- Tempos. Document 01: "Tempo text is digits with at most one point, at least one digit, at most nine after the point, value 1 to 65,535, halves rounded up; else notice 14."
use Rattle.std.specs.Prelude.{ℕ, suc, ◌+◌, ◌*◌, ◌/◌, ◌^◌, ◌&&◌, cond, List, ◌++◌, leb, length, take, drop, Result, Ok, Err}
use Rattle.slices.specs.Split.{index_of}
use Rattle.interpretation.specs.Digits.{all_digits, decimal}
use Rattle.interpretation.specs.declared.Interpretation.{Interpretation}
use Rattle.interpretation.specs.declared.Interpretation.TheVariants.{Tempo}
use Rattle.interpretation.specs.declared.Unsupported.{Unsupported}
use Rattle.interpretation.specs.declared.Unsupported.TheVariants.{OtherTempo}

-- n parts of a unit: from 1 to 65,535 units, and then the nearest whole number, halves up
unfoldable pub rounded : ℕ → ℕ → Result Interpretation Unsupported
rounded n unit = cond (leb unit n && leb n (65535 * unit)) (Ok (Tempo ((2 * n + unit) / (2 * unit)))) (Err OtherTempo)

-- the digits before and behind the point: together one number, of which as many places as stand behind are the fraction's
unfoldable pub tempo_from : List ℕ → List ℕ → Result Interpretation Unsupported
tempo_from whole fraction =
    cond (all_digits (whole ++ fraction) && leb 1 (length (whole ++ fraction)) && leb (length fraction) 9)
    (rounded (decimal (whole ++ fraction)) (10 ^ length fraction))
    (Err OtherTempo)

-- the text cut at its first point `.`
unfoldable pub tempo_of : List ℕ → Result Interpretation Unsupported
tempo_of s = tempo_from (take (index_of 46 s) s) (drop (suc (index_of 46 s)) s)
