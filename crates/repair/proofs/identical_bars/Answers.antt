-- The first byte, then the first token against all.
use Rattle.std.proofs.Common.{sym, ◌∙◌, arith}
use lib.Seq.{length-take-le}
use Rattle.lines.proofs.PieceLaws.{Piece, piece_at_lem}
use Rattle.repair.specs.Repair.{identical_bars, is_bar}
use Rattle.repair.proofs.EachLaws.{bar_first, first_token}
use Rattle.repair.proofs.identical_bars.Goals as goal

pub slice_bounds-alike-end : goal.slice_bounds-alike-end
slice_bounds-alike-end c = let p : Piece 9 c.args.line.now 0 c.token_end-end.result = piece_at_lem (omega arith) c.token_end-end.ensures in
    sym (length-take-le c.token_end-end.result c.args.line.now p.high)

pub returns-then-begins : goal.returns-then-begins
unfolding identical_bars is_bar
returns-then-begins c =
    c.alike.ensures ∙ sym (rw (← bar_first c.args.line.now, sym c.begins.ensures ∙ c.if-begins.true, first_token c.args.line.now _ c.token_end-end.ensures))

pub returns-else-begins : goal.returns-else-begins
unfolding identical_bars is_bar
returns-else-begins c = c.if-begins.false ∙ sym (rw (← bar_first c.args.line.now, sym c.begins.ensures ∙ c.if-begins.false))
