-- Texts whose note tokens are computed from what the text says: one table, one fact.
use Prim.Native.Nat.{ℕ}
use mathlib.Core.List.{List, [], ◌∷◌, head_d}
use mathlib.Core.Option.{bind}
use lib.Dec.{T}
use Rattle.slices.specs.Compare.{begins_with, same_bytes}
use Rattle.slices.specs.Split.{join, split, pieces, index_of}
use Rattle.lines.specs.Lines.{keep, without_crs, kind_of}
use Rattle.lines.specs.Tokens.{is_null, is_kern, is_star, is_empty}
use Rattle.paths.specs.Token.{path_token}
use Rattle.paths.specs.Trace.{exchanges_right, exchanges_left, follows_join, gives_of, gives, before, width, source_of, source, look_back, origin, origin_in, trace, kerns_before, part_from, part_at_end, part, columns}
use Rattle.paths.specs.TracedVoice.{some_below, lowest_free, kept, given, voice}
use Rattle.repair.specs.Record.{record_of}
use Rattle.repair.specs.Repair.{each, is_ordinary, is_bar, identical_bars, repair_of, repair_by, questions}
use Rattle.duration.specs.Duration.{digits, number_from, number_of, exponent_of, gcd_in, written_at, written, counts, duration_of}
use Rattle.duration.specs.Ratio.{smallest_of, reduced_at, ratio_at, ratio_of, ratio_value, is_ratio, before_percent, behind_percent, spelled_value, spelled_length}
use Rattle.duration.specs.Reciprocal.{decimal, reciprocal_length, added, dotted}
use Rattle.pitch.specs.Pitch.{within, lower_case, upper_case, lower_pitch, upper_pitch, pitch_of, altered_by, signs, twos_complement}
use Rattle.items.specs.Items.{is_letter, joins, into, runs, pieces as item_pieces, item_of, items_of, more, first, goes_on, first_piece, next_item}
use Rattle.token.specs.Account.{digits_in, first_digits, reciprocal_counts, tuplet_fits, ratio_counts, has_value, is_note, account_length}
use Rattle.token.specs.Token.{bad_length, up_to_blank, first_sub, is_silent, given_in, marks, count_of, dots_of, rest_of, any_of, grace_by, grace_from, heard, passes}
use Rattle.notation.specs.Bytes.{contains, trim_start}
use Rattle.peers.specs.Peers.{only_signs, is_bare, leading, forbids, offer_of, peers_from, all_offer, uniform}
use Rattle.reading.proofs.Texts.{Example, ◌yields◌, agree}
use Rattle.account.specs.Rows.{records_from, records_of, paths_from, paths_of, taken_from, taken_of}
use Rattle.account.specs.Account.{Item, kern_columns, inferred_of, items_from, items_of as record_items, account_from, account_by, account}

-- of each note token part, voice, bar, line, column, and length
abbrev shown : List Item → List ℕ
shown [] = []
shown (i ∷ is) = i.part ∷ i.voice ∷ i.bar ∷ i.line ∷ i.column ∷ i.length.numerator ∷ i.length.denominator ∷ shown is

unfoldable pub accounted : List ℕ → List ℕ
unfolding bind head_d begins_with same_bytes join split pieces index_of keep without_crs kind_of is_null is_kern is_star is_empty path_token exchanges_right
    exchanges_left follows_join gives_of gives before width source_of source look_back origin origin_in trace kerns_before part_from part_at_end part columns
    some_below lowest_free kept given voice record_of each is_ordinary is_bar identical_bars repair_of repair_by questions digits number_from number_of
    exponent_of gcd_in written_at written counts duration_of smallest_of reduced_at ratio_at ratio_of ratio_value is_ratio before_percent behind_percent spelled_value spelled_length decimal reciprocal_length added dotted within lower_case upper_case lower_pitch upper_pitch
    pitch_of altered_by signs twos_complement is_letter joins into runs item_pieces item_of items_of more first goes_on first_piece next_item digits_in first_digits reciprocal_counts tuplet_fits ratio_counts has_value is_note
    account_length bad_length up_to_blank first_sub is_silent given_in marks count_of dots_of rest_of any_of grace_by grace_from heard passes contains
    trim_start only_signs is_bare leading forbids offer_of peers_from all_offer uniform records_from records_of paths_from paths_of taken_from taken_of
    kern_columns inferred_of items_from record_items account_from account_by account
accounted t = shown (account t)

unfoldable pub table : List Example
table =
    -- a split and a join, a dot, a closing, a rest
    ((("**kern" ∷ []) ∷ ("8cL" ∷ []) ∷ ("*^" ∷ []) ∷ ("8dJ" ∷ "8eL" ∷ []) ∷ ("*v" ∷ "*v" ∷ []) ∷ ("8f." ∷ []) ∷ ("=:|!|:" ∷ []) ∷ ("4r" ∷ []) ∷ []) yields
    (0 ∷ 0 ∷ 1 ∷ 2 ∷ 1 ∷ 1 ∷ 8 ∷ 0 ∷ 0 ∷ 1 ∷ 4 ∷ 1 ∷ 1 ∷ 8 ∷ 0 ∷ 1 ∷ 1 ∷ 4 ∷ 2 ∷ 1 ∷ 8 ∷ 0 ∷ 0 ∷ 1 ∷ 6 ∷ 1 ∷ 24 ∷ 128 ∷ 0 ∷ 0 ∷ 2 ∷ 8 ∷ 1 ∷ 1 ∷ 4 ∷ []))
    -- an exchange, a spine outside kern, an empty line, a comment
    ∷ ((("**kern" ∷ "**kern" ∷ "**text" ∷ []) ∷ ("4c" ∷ "4e" ∷ "4a" ∷ []) ∷ ("!" ∷ []) ∷ ("*x" ∷ "*x" ∷ "*" ∷ []) ∷ ("" ∷ []) ∷ ("4g" ∷ "." ∷ "." ∷ []) ∷ []) yields
    (0 ∷ 0 ∷ 1 ∷ 2 ∷ 1 ∷ 1 ∷ 4 ∷ 1 ∷ 0 ∷ 1 ∷ 2 ∷ 2 ∷ 1 ∷ 4 ∷ 1 ∷ 0 ∷ 1 ∷ 6 ∷ 1 ∷ 1 ∷ 4 ∷ []))
    -- a length inferred, barlines without a note between, a grace, a record behind the last spine
    ∷ ((("**kern" ∷ "**kern" ∷ "**kern" ∷ []) ∷ ("=" ∷ "=" ∷ "=" ∷ []) ∷ ("12c" ∷ "12e" ∷ "g" ∷ []) ∷ ("=" ∷ "=" ∷ "=" ∷ []) ∷ ("=" ∷ "=" ∷ "=" ∷ []) ∷ ("8cq" ∷ "4e 4g" ∷ "." ∷ []) ∷ ("*-" ∷ "*-" ∷ "*-" ∷ []) ∷ ("4c" ∷ "4c" ∷ "4c" ∷ []) ∷ []) yields
    (0 ∷ 0 ∷ 1 ∷ 3 ∷ 1 ∷ 1 ∷ 12 ∷ 1 ∷ 0 ∷ 1 ∷ 3 ∷ 2 ∷ 1 ∷ 12 ∷ 2 ∷ 0 ∷ 1 ∷ 3 ∷ 3 ∷ 1 ∷ 12 ∷ 0 ∷ 0 ∷ 2 ∷ 6 ∷ 1 ∷ 0 ∷ 1 ∷ 1 ∷ 0 ∷ 2 ∷ 6 ∷ 2 ∷ 1 ∷ 4 ∷ []))
    -- ratios, read and inferred, one with a dot, and one above 4
    ∷ ((("**kern" ∷ "**kern" ∷ "**kern" ∷ []) ∷ ("3%2c" ∷ "3%2e" ∷ "g" ∷ []) ∷ ("3%2.c" ∷ "4%1e" ∷ "63%253g" ∷ []) ∷ []) yields
    (0 ∷ 0 ∷ 1 ∷ 2 ∷ 1 ∷ 2 ∷ 3 ∷ 1 ∷ 0 ∷ 1 ∷ 2 ∷ 2 ∷ 2 ∷ 3 ∷ 2 ∷ 0 ∷ 1 ∷ 2 ∷ 3 ∷ 2 ∷ 3 ∷ 0 ∷ 0 ∷ 1 ∷ 3 ∷ 1 ∷ 18 ∷ 18 ∷ 1 ∷ 0 ∷ 1 ∷ 3 ∷ 2 ∷ 1 ∷ 4 ∷ []))
    ∷ []

pub examples : T (agree accounted table)
unfolding table same_bytes accounted
examples = tt
