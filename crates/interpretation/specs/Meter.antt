-- Meters and mensuration signs.
use Rattle.std.specs.Prelude.{ℕ, zero, suc, ◌^◌, Bool, false, ◌&&◌, ◌||◌, cond, List, [], ◌∷◌, eqb, ltb, length, take, drop, Option, Some, None, Result, Ok, Err}
use Rattle.std.specs.Option.{option_map, ok_or}
use Rattle.slices.specs.Ascii.{ascii}
use Rattle.slices.specs.Split.{index_of}
use Rattle.interpretation.specs.declared.Interpretation.{Interpretation}
use Rattle.interpretation.specs.declared.Interpretation.TheVariants.{Meter, Symbol}
use Rattle.interpretation.specs.declared.meter.Symbol.{Symbol as MeterSymbol}
use Rattle.interpretation.specs.declared.meter.Symbol.TheVariants.{Common, Cut}
use Rattle.interpretation.specs.declared.Unsupported.{Unsupported}
use Rattle.interpretation.specs.declared.Unsupported.TheVariants.{OtherMeter, OtherSymbol}
use Rattle.interpretation.specs.Number.{byte_number}
use Rattle.interpretation.specs.Words.{named}

-- whether n is 2 ^ 0 to 2 ^ (k - 1)
unfoldable pub power_below : ℕ → ℕ → Bool
power_below zero n = false
power_below (suc k) n = eqb n (2 ^ k) || power_below k n

-- the powers of two that a u8 holds
unfoldable pub power_of_two : ℕ → Bool
power_of_two n = power_below 8 n

-- Rust lets one `+` stand before a number
unfoldable pub without_plus : List ℕ → List ℕ
without_plus [] = []
without_plus (x ∷ xs) = cond (eqb x 43) xs (x ∷ xs)

-- the source: a numerator above 0 and a power of two, else notice 12
unfoldable pub meter_from : Option ℕ → Option ℕ → Result Interpretation Unsupported
meter_from None d = Err OtherMeter
meter_from (Some n) None = Err OtherMeter
meter_from (Some n) (Some d) = cond (ltb 0 n && power_of_two d) (Ok (Meter n d)) (Err OtherMeter)

-- the source cuts the text at its first `/`; where there is none, notice 12
unfoldable pub meter_of : List ℕ → Result Interpretation Unsupported
meter_of s =
    cond (ltb (index_of 47 s) (length s))
    (meter_from (byte_number (take (index_of 47 s) s)) (byte_number (without_plus (drop (suc (index_of 47 s)) s))))
    (Err OtherMeter)

-- `c)`, `c|)`
unfoldable pub symbols : List (List ℕ × MeterSymbol)
symbols = (ascii "c)", Common) ∷ (ascii "c|)", Cut) ∷ []

-- document 01: "symbol (1 common, 2 cut)"
abbrev pub symbol_number : MeterSymbol → ℕ
symbol_number Common = 1
symbol_number Cut = 2

-- the sign that a text is, else notice 13
unfoldable pub symbol_of : List ℕ → Result Interpretation Unsupported
symbol_of s = ok_or (option_map Symbol (named symbols s)) OtherSymbol
