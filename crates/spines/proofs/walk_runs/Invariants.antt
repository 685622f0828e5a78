-- What is found from the token at hand on is what is found of the whole record.
use Rattle.std.proofs.Common.{is_some, unwrap_or}
use Rattle.spines.proofs.RunLaws.{RunsLeft}
use Rattle.spines.proofs.walk_runs.Given as goal

abbrev pub invariant-loop-i : goal.invariant-loop-i
invariant-loop-i l = RunsLeft l.line l.row l.from (is_some l.run) (unwrap_or l.run 0) l.i
