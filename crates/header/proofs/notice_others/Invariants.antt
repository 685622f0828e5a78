-- The notices of the tokens left, laid from here, are all of them, laid from the start.
use lib.ListN.{length}
use Rattle.header.proofs.NoticeLaws.{Noticing}
use Rattle.header.proofs.notice_others.Given as goal

abbrev pub invariant-loop-i : goal.invariant-loop-i
invariant-loop-i l = Noticing l.line.bytes.now l.line.number l.line.offset l.initial.t l.initial.out l.t l.out l.at (length l.yielded)
