-- By whether the notice is kept; the count is that of the signifiers.
use Rattle.items.specs.Items.{items}
use Rattle.token.specs.Token.{signifiers_of}
use Rattle.writing.specs.Kept.{signifiers_notice}
use Rattle.writing.proofs.WriteLaws.{is_kept, not_kept}
use Rattle.writing.proofs.notify_signifiers.Goals as goal

pub returns-then-tally-lt1024 : goal.returns-then-tally-lt1024
returns-then-tally-lt1024 c = let bytes = signifiers_of (items c.args.token.now) in is_kept c.args.tally (signifiers_notice c.args.line c.args.column bytes) bytes c.args.out.now c.if-tally-lt1024.true (rw (← c.requires.0) (rw c.from.ensures at c.write_signified-at.ensures.0)) (rw (← c.requires.0) (rw c.from.ensures at c.write_signified-at.ensures.1)) c.counted.ensures

pub returns : goal.returns
returns c = let bytes = signifiers_of (items c.args.token.now) in not_kept c.args.tally (signifiers_notice c.args.line c.args.column bytes) bytes c.args.out.now c.if-tally-lt1024.false
