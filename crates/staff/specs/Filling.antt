-- "When a split is refused with 8, editors want the cause": the lines that fill the staff, from what the text says.
use Rattle.std.specs.Prelude.{ℕ, ◌-◌, cond, List, [], eqb, take}
use Rattle.lines.specs.Lines.{lines_of}
use Rattle.holders.specs.Holders.{holders}
use Rattle.holders.specs.declared.list.Holder.{Holder}
use Rattle.reading.specs.Text.{Answer, refusal, accepted, read_text}
use Rattle.account.specs.Reached.{later_among}
use Rattle.account.specs.Rows.{header_of, paths_of}

-- of the record on line k, behind so many later records, and the part that the refusal names; "On any other outcome the list is empty."
abbrev pub filling_by : List ℕ → Answer → List Holder
filling_by text (refusal n k q) = cond (eqb n 8) (holders (header_of text) (paths_of text) (later_among (take (k - 1) (lines_of text))) q) []
filling_by text (accepted parts notes rs) = []

unfoldable pub filling_of : List ℕ → List Holder
filling_of text = filling_by text (read_text text)
