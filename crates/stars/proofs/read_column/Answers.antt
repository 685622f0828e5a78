-- By the path token: nothing, a notice, or an interpretation.
use lib.ListN.{length}
use Rattle.sheet.specs.Record.{span_of}
use Rattle.stars.specs.Columns.{token_of}
use Rattle.stars.proofs.ApplyLaws.{comes_quiet, comes_notice, by_token, by_pair, no_path}
use Rattle.stars.proofs.read_column.Goals as goal

pub returns-in-Exchange : goal.returns-in-Exchange
returns-in-Exchange c = comes_quiet (by_pair c.args.token.bytes.now c.args.paired c.args.spine c.args.token.line c.args.token.column (token_of c.args.token.offset c.args.token.bytes.now) c.path_token.ensures c.in-Exchange.is c.if-paired.true)

pub returns-in-Split : goal.returns-in-Split
returns-in-Split c = comes_quiet (no_path c.args.token.bytes.now c.args.paired c.args.spine c.args.token.line c.args.token.column (token_of c.args.token.offset c.args.token.bytes.now) c.path_token.ensures c.in-Split.is)

pub returns-in-Add : goal.returns-in-Add
returns-in-Add c = comes_notice 7 c.args.token.line c.args.token.column (span_of c.args.token.offset (length c.args.token.bytes.now)) c.notify.ensures (by_token c.args.token.bytes.now c.args.paired c.args.spine c.args.token.line c.args.token.column (token_of c.args.token.offset c.args.token.bytes.now) c.path_token.ensures c.in-Add.is)
