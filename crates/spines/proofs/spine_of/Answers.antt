use Rattle.std.proofs.Common.{sym, arith, ◌-◌, ◌/◌}
use Rattle.spines.proofs.CellLaws.{cell_outside, cell_line, cell_branch}
use Rattle.spines.proofs.spine_of.Goals as goal

-- src/lib.rt:23:9
pub returns-then-place-eq0 : goal.returns-then-place-eq0
returns-then-place-eq0 c = sym (cell_outside c.args.cell (omega arith))

-- src/lib.rt:27:9
pub returns-then-voice-lt4 : goal.returns-then-voice-lt4
returns-then-voice-lt4 c =
    rw (c.from-place.ensures, c.from-voice.ensures)
    (sym (cell_line c.args.cell (c.args.cell / 8 - 1) (omega arith) (omega arith)))

-- src/lib.rt:17:1
pub returns : goal.returns
returns c =
    rw c.from-place.ensures
    (sym (cell_branch c.args.cell (c.args.cell / 8 - 1) (omega arith) (omega arith)))
