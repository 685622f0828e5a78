-- The cell says whether the column is a line of a part, and its part and voice.
use mathlib.Core.Path.{sym, ◌∙◌}
use Rattle.state.proofs.CountLaws.{same}
use Rattle.state.specs.View.{state_of}
use Rattle.data.proofs.PeerLaws.{infers}
use Rattle.data.proofs.ColumnLaws.{column_quiet, column_line, column_sited}
use Rattle.data.proofs.read_column.Goals as goal

pub returns-in_default : goal.returns-in_default
returns-in_default c = record {
  told = column_quiet c.args.line.number c.args.line.offset c.args.line.bytes.now c.args.row.now c.args.column (state_of c.args.row.now c.args.parts.now c.args.tally) c.args.out.now c.args.tally.at (λ p v e. c.in_default.not-Line p v (c.spine_of.ensures ∙ e));
  kept = same c.args.tally;
  agreed = c.requires.agreed;
}

pub read_token-requires : goal.read_token-requires
read_token-requires c = column_sited c.args.line.number c.args.line.offset c.args.line.bytes.now c.args.row.now c.args.column (sym c.spine_of.ensures ∙ c.in-Line.is) c.requires.ready c.args.line.short c.requires.entered.inside c.requires.entered.low c.requires.entered.high c.spot_of-spot.ensures

pub returns-clause-told : goal.returns-clause-told
returns-clause-told c =
    let spine = sym c.spine_of.ensures ∙ c.in-Line.is in
    column_line c.args.line.number c.args.line.offset c.args.line.bytes.now c.args.row.now c.args.column spine (state_of c.args.row.now c.args.parts.now c.args.tally) c.args.out.now c.args.tally.at
    (infers c.args.line.offset c.args.line.bytes.now c.args.row.now c.args.column c.requires.entered spine c.infer-inferred.ensures.value) c.spot_of-spot.ensures (c.read_token.ensures.0 c.args.row.now)
