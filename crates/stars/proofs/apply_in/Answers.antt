-- Only a line has a part.
use Rattle.stars.specs.Columns.{token_of}
use Rattle.stars.proofs.ApplyLaws.{comes_quiet, no_line}
use Rattle.stars.proofs.apply_in.Goals as goal

pub returns-in-Branch : goal.returns-in-Branch
returns-in-Branch c = comes_quiet (no_line c.args.token.line c.args.token.column (token_of c.args.token.offset c.args.token.bytes.now) c.in-Branch.is)
