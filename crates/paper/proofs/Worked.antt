-- Document 01's worked lines hold: one computed fact over the whole table.
use lib.Dec.{T}
use Rattle.slices.specs.Split.{split, join, index_of}
use Rattle.slices.specs.Compare.{same_bytes}
use Rattle.duration.specs.Duration.{duration_of, counts, digits, number_from, written, written_at, exponent_of, gcd_in}
use Rattle.duration.specs.Ratio.{is_ratio, spelled_value}
use Rattle.pitch.specs.Pitch.{pitch_of, lower_pitch, upper_pitch, lower_case, upper_case, within}
use Rattle.items.specs.Items.{is_letter, joins, into, runs, pieces, item_of, items_of}
use Rattle.token.specs.Outcome.{note_of, without_digits, outcome_of}
use Rattle.token.specs.Scan.{scan_items}
use Rattle.token.specs.Token.{bad_length, up_to_blank, first_sub, is_silent, given_in, marks, count_of, dots_of, rest_of, any_of, grace_by, grace_from, articulation, articulations_in, heard, passes, signifiers}
use Rattle.paths.specs.Token.{path_token}
use Rattle.paths.specs.Joins.{strays, mixed_from}
use Rattle.paths.specs.Row.{part_at, branch_from, advance}
use Rattle.paths.specs.Voices.{step_row, voice_row, give_voices, holds, lowest, with_voice}
use Rattle.notation.specs.Bytes.{contains}
use Rattle.interpretation.specs.Interpretation.{computed}
use Rattle.paper.specs.Table.{each, table}

pub worked : T (each table)
unfolding table same_bytes split join duration_of counts digits number_from written written_at exponent_of gcd_in is_ratio spelled_value pitch_of lower_pitch upper_pitch lower_case upper_case within index_of path_token advance branch_from part_at strays mixed_from step_row voice_row give_voices holds lowest with_voice contains computed is_letter joins into runs pieces item_of items_of note_of without_digits outcome_of scan_items bad_length up_to_blank first_sub is_silent given_in marks count_of dots_of rest_of any_of grace_by grace_from articulation articulations_in heard passes signifiers
worked = tt
