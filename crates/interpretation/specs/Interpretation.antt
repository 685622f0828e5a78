-- A tandem interpretation, kind by kind in the source's order.
use Rattle.std.specs.Prelude.{ℕ, Bool, ◌&&◌, ◌||◌, cond, List, eqb, length, get_or, drop, Result, Ok, Err}
use Rattle.slices.specs.Ascii.{ascii}
use Rattle.slices.specs.Compare.{begins_with, same_bytes}
use Rattle.slices.specs.Split.{index_of}
use Rattle.interpretation.specs.declared.Interpretation.{Interpretation}
use Rattle.interpretation.specs.declared.Interpretation.TheVariants.{Nothing, Name, ShortName}
use Rattle.interpretation.specs.declared.Unsupported.{Unsupported}
use Rattle.interpretation.specs.declared.Unsupported.TheVariants.{InsideBar}
use Rattle.interpretation.specs.Digits.{is_digit, all_digits, decimal_on, decimal}
use Rattle.interpretation.specs.Number.{byte_number}
use Rattle.interpretation.specs.Words.{named}
use Rattle.interpretation.specs.Clef.{clefs, clef_of}
use Rattle.interpretation.specs.Key.{ends_with, without_last, is_prefix, signature_of, key_of, tonic_mode, mode_of}
use Rattle.interpretation.specs.Meter.{power_below, power_of_two, without_plus, meter_from, meter_of, symbols, symbol_of}
use Rattle.interpretation.specs.Tempo.{rounded, tempo_from, tempo_of}

-- what the text behind the star begins with
abbrev pub clef_mark : List ℕ
clef_mark = ascii "clef"

abbrev pub key_mark : List ℕ
key_mark = ascii "k["

abbrev pub symbol_mark : List ℕ
symbol_mark = ascii "met("

abbrev pub tempo_mark : List ℕ
tempo_mark = ascii "MM"

abbrev pub name_mark : List ℕ
name_mark = ascii "I\""

abbrev pub short_name_mark : List ℕ
short_name_mark = ascii "I'"

-- `M` and a digit
unfoldable pub meter_mark : List ℕ → Bool
meter_mark body = eqb (get_or body 0 0) 77 && is_digit (get_or body 1 0)

-- document 01: "Clef, key, meter, `met(`", by what the text begins with
unfoldable pub is_attribute : List ℕ → Bool
is_attribute body = begins_with clef_mark body || begins_with key_mark body || meter_mark body || begins_with symbol_mark body

-- what is no attribute: a tempo, a name, a short name, or a key designation
unfoldable pub other_of : List ℕ → Result Interpretation Unsupported
other_of body =
    cond (begins_with tempo_mark body) (tempo_of (drop 2 body))
    (cond (begins_with name_mark body) (Ok Name) (cond (begins_with short_name_mark body) (Ok ShortName) (mode_of body)))

-- what the text behind the star says, the first mark that it begins with deciding
unfoldable pub meaning_of : List ℕ → Result Interpretation Unsupported
meaning_of body =
    cond (begins_with clef_mark body) (clef_of (drop 4 body))
    (cond (begins_with key_mark body) (key_of (drop 2 body))
    (cond (meter_mark body) (meter_of (drop 1 body))
    (cond (begins_with symbol_mark body) (symbol_of (drop 4 body)) (other_of body))))

-- a star alone says nothing; document 01: "Clef, key, meter, `met(` after a note of that part in the bar: notice 8"
unfoldable pub interpretation_of : List ℕ → Bool → Result Interpretation Unsupported
interpretation_of token noted =
    cond (eqb (length (drop 1 token)) 0) (Ok Nothing)
    (cond (noted && is_attribute (drop 1 token)) (Err InsideBar) (meaning_of (drop 1 token)))

-- the same with every definition open: a proof that computes on a token says `unfolding computed`
unfoldable pub computed : List ℕ → Bool → Result Interpretation Unsupported
unfolding begins_with same_bytes index_of is_digit all_digits decimal_on decimal byte_number named clefs clef_of ends_with without_last is_prefix signature_of key_of tonic_mode mode_of power_below power_of_two without_plus meter_from meter_of symbols symbol_of rounded tempo_from tempo_of meter_mark is_attribute other_of meaning_of interpretation_of
computed token noted = interpretation_of token noted
