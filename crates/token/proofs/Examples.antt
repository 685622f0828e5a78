-- Worked tokens: a table, one of ratios, and the tokens with a bad length; one fact over each.
use Prim.Native.Nat.{ℕ, ◌+◌}
use mathlib.Core.Bool.{Bool, true, cond, not, ◌&&◌}
use mathlib.Core.List.{List, [], ◌∷◌}
use lib.Dec.{T, eqb, ltb}
use Rattle.slices.specs.Ascii.{ascii}
use Rattle.slices.specs.Split.{index_of}
use Rattle.slices.specs.Compare.{same_bytes}
use Rattle.duration.specs.Duration.{digits, number_from, exponent_of, gcd_in, written, written_at, counts, duration_of}
use Rattle.pitch.specs.Pitch.{within, lower_case, upper_case, lower_pitch, upper_pitch, pitch_of, altered_by}
use Rattle.notation.specs.Bytes.{contains}
use Rattle.duration.specs.Ratio.{smallest_of, reduced_at, ratio_at, ratio_of, ratio_value, is_ratio, before_percent, behind_percent, spelled_value}
use Rattle.items.specs.Items.{is_letter, joins, into, runs, pieces, item_of, items_of, items}
use Rattle.token.specs.Token.{bad_length, is_bad, up_to_blank, first_sub, is_silent, given_in, marks, count_of, dots_of, rest_of, any_of, grace_by, grace_from, articulation, articulations_in, heard, passes, signifiers}
use Rattle.token.specs.Scan.{scan_items}
use Rattle.token.specs.Outcome.{Outcome, notice_number, note_of, without_digits, outcome_of, read_token, reported, note_pitches}
use Rattle.token.specs.declared.pitches.Tone.{Tone}
use Rattle.token.specs.declared.outcome.Note.{Note}
use Rattle.std.specs.Prelude.{Some, None, Ok, Err}

-- a token, the digits of its peers, what becomes of it, the signifiers, and its pitches
pub data Line : Type 0 where
  line : List ℕ → List ℕ → List ℕ → List ℕ → List ℕ → Line

abbrev pub bit : Bool → ℕ → ℕ
bit t n = cond t n 0

-- the sheet's flags
abbrev pub flags : Note → ℕ
flags n =
    bit n.rest 1 + bit n.ties 2 + bit n.tied 4 + bit n.slurs 8 + bit n.slurred 16 + bit (ltb 0 n.grace) 32
    + bit (eqb n.grace 2) 64

-- nothing; a notice; or 0, or 20 where the length is inferred, with value, actual, normal, dots and flags
abbrev pub shown : Outcome → List ℕ
shown (Ok None) = []
shown (Err why) = notice_number why ∷ []
shown (Ok (Some n)) = bit n.inferred 20 ∷ n.value ∷ n.actual ∷ n.normal ∷ n.dots ∷ flags n ∷ []

-- step, octave, and the alteration with 128 added
abbrev pub tones : List Tone → List ℕ
tones [] = []
tones (t ∷ ts) = t.step ∷ t.octave ∷ t.alter ∷ tones ts

unfoldable pub holds : Line → Bool
holds (line token peers outcome unknown pitches) =
    same_bytes (shown (read_token token peers)) outcome
    && (same_bytes (reported token) unknown && same_bytes (tones (note_pitches token)) pitches)

abbrev pub each : List Line → Bool
each [] = true
each (l ∷ ls) = holds l && each ls

unfoldable pub table : List Line
table =
    line (ascii "4c") [] (0 ∷ 4 ∷ 0 ∷ 0 ∷ 0 ∷ 0 ∷ []) [] (0 ∷ 4 ∷ 128 ∷ [])
    -- six `c` octave 9, seven notices 17 and 18; four `C` octave 0, five 17 and 18
    ∷ line (ascii "4cccccc") [] (0 ∷ 4 ∷ 0 ∷ 0 ∷ 0 ∷ 0 ∷ []) [] (0 ∷ 9 ∷ 128 ∷ [])
    ∷ line (ascii "4ccccccc") [] (18 ∷ []) (ascii "c") []
    ∷ line (ascii "4CCCC") [] (0 ∷ 4 ∷ 0 ∷ 0 ∷ 0 ∷ 0 ∷ []) [] (0 ∷ 0 ∷ 128 ∷ [])
    ∷ line (ascii "4CCCCC") [] (18 ∷ []) (ascii "C") []
    -- an empty token, or one of blanks only, gives nothing at all; `..` is no `.`
    ∷ line (ascii "") [] [] [] []
    ∷ line (ascii "  ") [] [] [] []
    ∷ line (ascii "..") [] (18 ∷ []) [] []
    -- 16 ends the token at once, in a later sub-token too; `%` counts only right behind digits
    ∷ line (ascii "x4c4") [] (16 ∷ []) [] (0 ∷ 4 ∷ 128 ∷ [])
    ∷ line (ascii "4cx 8d8") [] (16 ∷ []) [] (0 ∷ 4 ∷ 128 ∷ 1 ∷ 4 ∷ 128 ∷ [])
    ∷ line (ascii "4%c") [] (16 ∷ []) [] (0 ∷ 4 ∷ 128 ∷ [])
    ∷ line (ascii "4c 8d") [] (0 ∷ 4 ∷ 0 ∷ 0 ∷ 0 ∷ 0 ∷ []) [] (0 ∷ 4 ∷ 128 ∷ 1 ∷ 4 ∷ 128 ∷ [])
    ∷ line (ascii "4c%") [] (0 ∷ 4 ∷ 0 ∷ 0 ∷ 0 ∷ 0 ∷ []) (ascii "%") (0 ∷ 4 ∷ 128 ∷ [])
    ∷ line (ascii "%4c") [] (0 ∷ 4 ∷ 0 ∷ 0 ∷ 0 ∷ 0 ∷ []) (ascii "%") (0 ∷ 4 ∷ 128 ∷ [])
    -- 18 is decided before the length
    ∷ line (ascii "000") [] (18 ∷ []) [] []
    ∷ line (ascii "99999x") [] (18 ∷ []) (ascii "x") []
    ∷ line (ascii "r") [] (21 ∷ []) [] []
    ∷ line (ascii "000r") [] (19 ∷ []) [] []
    -- a second run gives its letter once, and a sign behind it goes to the first; a sign without a pitch is a signifier
    ∷ line (ascii "4cddd#") [] (0 ∷ 4 ∷ 0 ∷ 0 ∷ 0 ∷ 0 ∷ []) (ascii "d") (0 ∷ 4 ∷ 129 ∷ [])
    ∷ line (ascii "4ccccccc#") [] (18 ∷ []) (ascii "c#") []
    ∷ line (ascii "4cccccccd") [] (0 ∷ 4 ∷ 0 ∷ 0 ∷ 0 ∷ 0 ∷ []) (ascii "c") (1 ∷ 4 ∷ 128 ∷ [])
    -- only the first sub-token counts for length, dots and rest
    ∷ line (ascii "L 4c") [] (21 ∷ []) [] (0 ∷ 4 ∷ 128 ∷ [])
    ∷ line (ascii " 4c 8.d") [] (0 ∷ 4 ∷ 0 ∷ 0 ∷ 0 ∷ 0 ∷ []) [] (0 ∷ 4 ∷ 128 ∷ 1 ∷ 4 ∷ 128 ∷ [])
    ∷ line (ascii "4c r") [] (0 ∷ 4 ∷ 0 ∷ 0 ∷ 0 ∷ 0 ∷ []) [] (0 ∷ 4 ∷ 128 ∷ [])
    ∷ line (ascii "4r c") [] (0 ∷ 4 ∷ 0 ∷ 0 ∷ 0 ∷ 1 ∷ []) [] []
    ∷ line (ascii "4rc") [] (0 ∷ 4 ∷ 0 ∷ 0 ∷ 0 ∷ 1 ∷ []) [] []
    -- a rest has no ties; slurs and grace are kept
    ∷ line (ascii "4r[_](") [] (0 ∷ 4 ∷ 0 ∷ 0 ∷ 0 ∷ 9 ∷ []) [] []
    ∷ line (ascii "8rq") [] (0 ∷ 5 ∷ 0 ∷ 0 ∷ 0 ∷ 97 ∷ []) [] []
    ∷ line (ascii "4c_ e)") [] (0 ∷ 4 ∷ 0 ∷ 0 ∷ 0 ∷ 22 ∷ []) [] (0 ∷ 4 ∷ 128 ∷ 2 ∷ 4 ∷ 128 ∷ [])
    -- the last of `q` and `Q` wins; a grace without digits is an eighth; digits without a value are 19 all the same
    ∷ line (ascii "cqQ") [] (0 ∷ 5 ∷ 0 ∷ 0 ∷ 0 ∷ 32 ∷ []) [] (0 ∷ 4 ∷ 128 ∷ [])
    ∷ line (ascii "000cq") [] (19 ∷ []) [] (0 ∷ 4 ∷ 128 ∷ [])
    -- an inferred length, a tuplet; no more than three dots
    ∷ line (ascii "c") (ascii "4") (20 ∷ 4 ∷ 0 ∷ 0 ∷ 0 ∷ 0 ∷ []) [] (0 ∷ 4 ∷ 128 ∷ [])
    ∷ line (ascii "c") [] (21 ∷ []) [] (0 ∷ 4 ∷ 128 ∷ [])
    ∷ line (ascii "3....c") [] (0 ∷ 3 ∷ 3 ∷ 2 ∷ 3 ∷ 0 ∷ []) [] (0 ∷ 4 ∷ 128 ∷ [])
    -- `n` sets natural, and later signs count on from there
    ∷ line (ascii "4c##n#") [] (0 ∷ 4 ∷ 0 ∷ 0 ∷ 0 ∷ 0 ∷ []) [] (0 ∷ 4 ∷ 129 ∷ [])
    ∷ []

pub examples : T (each table)
unfolding table holds same_bytes index_of digits number_from exponent_of gcd_in written written_at counts duration_of is_ratio spelled_value within lower_case upper_case lower_pitch upper_pitch pitch_of altered_by contains is_letter joins into runs pieces item_of items_of bad_length up_to_blank first_sub is_silent given_in marks count_of dots_of rest_of any_of grace_by grace_from articulation articulations_in heard passes signifiers scan_items note_of without_digits outcome_of
examples = tt

-- ---- ratios
unfoldable pub ratios : List Line
ratios =
    line (ascii "3%2c") [] (0 ∷ 2 ∷ 3 ∷ 2 ∷ 0 ∷ 0 ∷ []) [] (0 ∷ 4 ∷ 128 ∷ [])
    ∷ line (ascii "3%2.c") [] (0 ∷ 2 ∷ 3 ∷ 2 ∷ 1 ∷ 0 ∷ []) [] (0 ∷ 4 ∷ 128 ∷ [])
    ∷ line (ascii "[3%2c") [] (0 ∷ 2 ∷ 3 ∷ 2 ∷ 0 ∷ 2 ∷ []) [] (0 ∷ 4 ∷ 128 ∷ [])
    ∷ line (ascii "c3%2") [] (0 ∷ 2 ∷ 3 ∷ 2 ∷ 0 ∷ 0 ∷ []) [] (0 ∷ 4 ∷ 128 ∷ [])
    ∷ line (ascii "4%2c") [] (0 ∷ 3 ∷ 0 ∷ 0 ∷ 0 ∷ 0 ∷ []) [] (0 ∷ 4 ∷ 128 ∷ [])
    ∷ line (ascii "3%2r") [] (0 ∷ 2 ∷ 3 ∷ 2 ∷ 0 ∷ 1 ∷ []) [] []
    -- a grace by its own length; none where it writes none
    ∷ line (ascii "3%2cq") [] (0 ∷ 2 ∷ 3 ∷ 2 ∷ 0 ∷ 96 ∷ []) [] (0 ∷ 4 ∷ 128 ∷ [])
    ∷ line (ascii "300%2cq") [] (19 ∷ []) [] (0 ∷ 4 ∷ 128 ∷ [])
    ∷ line (ascii "1%5c") [] (19 ∷ []) [] (0 ∷ 4 ∷ 128 ∷ [])
    ∷ line (ascii "64%255c") [] (19 ∷ []) [] (0 ∷ 4 ∷ 128 ∷ [])
    -- 16 by the spelling, before all else; 18 before the value
    ∷ line (ascii "300%2c%") [] (16 ∷ []) [] (0 ∷ 4 ∷ 128 ∷ [])
    ∷ line (ascii "300%2x") [] (18 ∷ []) (ascii "x") []
    -- a `%` in front is no part of it, and alone stands in the signifiers; nor is one behind a blank
    ∷ line (ascii "%3%2c") [] (0 ∷ 2 ∷ 3 ∷ 2 ∷ 0 ∷ 0 ∷ []) (ascii "%") (0 ∷ 4 ∷ 128 ∷ [])
    ∷ line (ascii "3 %2c") [] (0 ∷ 3 ∷ 3 ∷ 2 ∷ 0 ∷ 0 ∷ []) (ascii "%") (0 ∷ 4 ∷ 128 ∷ [])
    -- only the first sub-token has one
    ∷ line (ascii " 3%2c 4e%") [] (0 ∷ 2 ∷ 3 ∷ 2 ∷ 0 ∷ 0 ∷ []) (ascii "%") (0 ∷ 4 ∷ 128 ∷ 2 ∷ 4 ∷ 128 ∷ [])
    ∷ line (ascii "4c 3%2e") [] (16 ∷ []) [] (0 ∷ 4 ∷ 128 ∷ 2 ∷ 4 ∷ 128 ∷ [])
    -- the neighbours'
    ∷ line (ascii "c") (ascii "3%2") (20 ∷ 2 ∷ 3 ∷ 2 ∷ 0 ∷ 0 ∷ []) [] (0 ∷ 4 ∷ 128 ∷ [])
    ∷ []

pub ratio_examples : T (each ratios)
unfolding ratios holds same_bytes index_of digits number_from exponent_of gcd_in written written_at counts duration_of smallest_of reduced_at ratio_at ratio_of ratio_value is_ratio before_percent behind_percent spelled_value within lower_case upper_case lower_pitch upper_pitch pitch_of altered_by contains is_letter joins into runs pieces item_of items_of bad_length up_to_blank first_sub is_silent given_in marks count_of dots_of rest_of any_of grace_by grace_from articulation articulations_in heard passes signifiers scan_items note_of without_digits outcome_of
ratio_examples = tt

-- ---- bad lengths
abbrev pub every : (List ℕ → Bool) → List (List ℕ) → Bool
every test [] = true
every test (t ∷ ts) = test t && every test ts

bad : List (List ℕ)
bad =
    -- further digits or a `%` behind a ratio
    ascii "3%2%" ∷ ascii "3%2c4" ∷ ascii "3%2c%" ∷ ascii "3%2%4%5c"
    -- digits and a `%` behind them, with no digit there
    ∷ ascii "4%c" ∷ ascii "4%" ∷ ascii "3%%2c" ∷ ascii "3%2 4%e"
    -- a ratio that isn't the first length, or in a later sub-token
    ∷ ascii "4c3%2" ∷ ascii "4c 4%3e" ∷ ascii "3%2c 3%2e" ∷ ascii "c 3%2e"
    -- repeated digits
    ∷ ascii "3.%2c" ∷ ascii "4c4" ∷ ascii "4 4e4"
    ∷ []

good : List (List ℕ)
good =
    ascii "3%2c" ∷ ascii "c3%2" ∷ ascii "3%2.c" ∷ ascii "%3c" ∷ ascii "%3%2c" ∷ ascii "4c%" ∷ ascii "3%2c 4e" ∷ ascii "  3%2c" ∷ ascii "3 %2" ∷ ascii "3%2c e%"
    ∷ ascii "(3%2c 5e 6g)" ∷ ascii "4c" ∷ ascii "300%2c"
    ∷ []

bad_ones : T (every (λ t. is_bad (items t)) bad)
unfolding bad is_letter within joins into runs pieces items_of item_of is_ratio bad_length
bad_ones = tt

good_ones : T (every (λ t. not (is_bad (items t))) good)
unfolding good is_letter within joins into runs pieces items_of item_of is_ratio bad_length
good_ones = tt
