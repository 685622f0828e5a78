-- The reading with every definition open: a proof that computes on a text says `unfolding computed`.
use Rattle.std.specs.Prelude.{ℕ}
use mathlib.Core.List.{List, [], ◌∷◌, head_d}
use Rattle.slices.specs.Compare.{begins_with, same_bytes}
use Rattle.slices.specs.Split.{join, split, pieces, index_of}
use Rattle.utf8.specs.Utf8.{table, begins, first_of, char_length, chars_length, utf8_length, bits, code_point}
use Rattle.lines.specs.Lines.{keep, without_crs, kind_of}
use Rattle.lines.specs.Tokens.{is_null, is_kern, is_exclusive, is_star, is_empty}
use Rattle.reference.specs.Reference.{key_of, span_of, reference_of}
use Rattle.reference.specs.Trim.{white, width, first_characters, characters, text, from_first, before, up_to_last, trimmed, leading, leading_white, trimmed_end, trimmed_at}
use Rattle.paths.specs.Joins.{strays, mixed_from}
use Rattle.paths.specs.Row.{part_at, branch_from, advance}
use Rattle.paths.specs.Text.{header_from, take_record, read_to}
use Rattle.paths.specs.Token.{path_token}
use Rattle.paths.specs.Voices.{holds, lowest, with_voice, give_voices, voice_row, step_row}
use Rattle.repair.specs.Repair.{each, is_ordinary, is_bar, identical_bars, repair_of, repair_by, questions}
use Rattle.duration.specs.Duration.{digits, number_from, number_of, exponent_of, gcd_in, written_at, written, counts, duration_of}
use Rattle.duration.specs.Ratio.{smallest_of, reduced_at, ratio_at, ratio_of, ratio_value, is_ratio, before_percent, behind_percent, spelled_value}
use Rattle.pitch.specs.Pitch.{within, lower_case, upper_case, lower_pitch, upper_pitch, pitch_of, altered_by, signs, twos_complement}
use Rattle.notation.specs.Barline.{right_of, left_of, barlines_of}
use Rattle.notation.specs.Bytes.{contains, contains_pair, trim_start}
use Rattle.items.specs.Items.{is_letter, joins, into, runs, pieces as pieces-items, item_of, items_of, more, first, goes_on, first_piece, next_item}
use Rattle.token.specs.Outcome.{note_of, without_digits, outcome_of}
use Rattle.token.specs.Scan.{scan_items}
use Rattle.token.specs.Token.{bad_length, up_to_blank, first_sub, is_silent, given_in, marks, count_of, dots_of, rest_of, any_of, grace_by, grace_from, articulation, articulations_in, heard, passes, signifiers}
use Rattle.peers.specs.Peers.{only_signs, is_bare, leading as leading-peers, forbids, offer_of, peers_from, all_offer, uniform, kern_cells}
use Rattle.interpretation.specs.Clef.{clefs, clef_of}
use Rattle.interpretation.specs.Digits.{is_digit, all_digits, decimal_on, decimal}
use Rattle.interpretation.specs.Interpretation.{meter_mark, is_attribute, other_of, meaning_of, interpretation_of}
use Rattle.interpretation.specs.Key.{ends_with, without_last, is_prefix, signature_of, key_of as keyOf-interpretation, tonic_mode, mode_of}
use Rattle.interpretation.specs.Meter.{power_below, power_of_two, without_plus, meter_from, meter_of, symbols, symbol_of}
use Rattle.interpretation.specs.Number.{number_up_to, byte_number}
use Rattle.interpretation.specs.Tempo.{rounded, tempo_from, tempo_of}
use Rattle.interpretation.specs.Words.{named}
use Rattle.sheet.specs.Record.{span_of as spanOf-sheet, head_bytes, note_bytes, pitch_bytes, bar_bytes, part_bytes, end_bytes, notice_bytes, extra_length, pitches_bytes, record_bytes, records_bytes}
use Rattle.paths.specs.Trace.{exchanges_right, exchanges_left}
use Rattle.reading.specs.Notices.{placed, keep as keep-reading, notify, notify_signifiers}
use Rattle.reading.specs.Header.{read_reference, notice_others, fresh_parts, any_kern, read_header}
use Rattle.reading.specs.Star.{read_columns, read_star}
use Rattle.reading.specs.Bars.{any_noted, closing, keep_left, deciding_or, deciding, close_with, read_bar}
use Rattle.reading.specs.Notes.{note_record, add_note, inferred_for, read_token_at, read_tokens, read_data}
use Rattle.reading.specs.Records.{notice_repair, read_line}
use Rattle.reading.specs.Text.{last_part, last_closing, last_records, finish, read_lines, read_text, sheet_bytes, answer_of, buffer_of, Answer, refusal, accepted}

-- the bytes of an accepted text's sheet; number, line and figure of a refusal
abbrev pub shown : Answer → List ℕ
shown (refusal n l f) = n ∷ l ∷ f ∷ []
shown (accepted parts notes rs) = sheet_bytes parts notes rs

unfoldable pub computed : List ℕ → List ℕ
unfolding head_d begins_with same_bytes join split pieces index_of table begins first_of char_length chars_length utf8_length bits code_point keep without_crs kind_of is_null is_kern is_exclusive is_star is_empty key_of span_of reference_of white width first_characters characters text from_first before up_to_last trimmed leading leading_white trimmed_end trimmed_at branch_from advance header_from take_record read_to path_token holds lowest with_voice give_voices voice_row part_at strays mixed_from step_row each is_ordinary is_bar identical_bars repair_of repair_by questions digits number_from number_of exponent_of gcd_in written_at written counts duration_of smallest_of reduced_at ratio_at ratio_of ratio_value is_ratio before_percent behind_percent spelled_value within lower_case upper_case lower_pitch upper_pitch pitch_of altered_by signs twos_complement right_of left_of barlines_of contains contains_pair trim_start is_letter joins into runs pieces-items item_of items_of more first goes_on first_piece next_item note_of without_digits outcome_of scan_items bad_length up_to_blank first_sub is_silent given_in marks count_of dots_of rest_of any_of grace_by grace_from articulation articulations_in heard passes signifiers only_signs is_bare leading-peers forbids offer_of peers_from all_offer uniform kern_cells clefs clef_of is_digit all_digits decimal_on decimal meter_mark is_attribute other_of meaning_of interpretation_of ends_with without_last is_prefix signature_of keyOf-interpretation tonic_mode mode_of power_below power_of_two without_plus meter_from meter_of symbols symbol_of number_up_to byte_number rounded tempo_from tempo_of named spanOf-sheet head_bytes note_bytes pitch_bytes bar_bytes part_bytes end_bytes notice_bytes extra_length pitches_bytes record_bytes records_bytes exchanges_right exchanges_left placed keep-reading notify notify_signifiers read_reference notice_others fresh_parts any_kern read_header read_columns read_star any_noted closing keep_left deciding_or deciding close_with read_bar note_record add_note inferred_for read_token_at read_tokens read_data notice_repair read_line last_part last_closing last_records finish read_lines read_text sheet_bytes answer_of buffer_of
computed t = shown (read_text t)
