-- A store behind those there are, or none.
use Rattle.holders.proofs.PassLaws.{put_full, put_more}
use Rattle.holders.proofs.list.Holders.push.Goals as goal

pub returns-then-self-lt5 : goal.returns-then-self-lt5
returns-then-self-lt5 c = put_more c.args.self.now c.args.holder c.if-self-lt5.true

pub returns-else-self-lt5 : goal.returns-else-self-lt5
returns-else-self-lt5 c = put_full c.args.self.now c.args.holder c.if-self-lt5.false
