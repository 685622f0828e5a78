-- What is kept of the notice is what the reading keeps.
use mathlib.Core.List.{[]}
use lib.ListN.{length}
use Rattle.notice.specs.Number.{number_of}
use Rattle.sheet.specs.Record.{span_of}
use Rattle.writing.specs.Kept.{notice_of}
use Rattle.notes.proofs.NoticeLaws.{noticed_by, notify_is}
use Rattle.notes.proofs.notify_token.Goals as goal

pub returns : goal.returns
returns c =
    let value = span_of c.args.spot.at (length c.args.token.now) in
    let w = rw c.from.ensures at c.notify.ensures in
    noticed_by c.args.tally (notice_of (number_of c.args.what) c.args.spot.line c.args.spot.column value) [] c.args.out.now _ (notify_is (number_of c.args.what) c.args.spot.line c.args.spot.column value) w.1 w.0
