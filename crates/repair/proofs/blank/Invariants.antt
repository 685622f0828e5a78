-- `blank`: what decides is the tokens from the index on, behind the first `left` of them.
use mathlib.Core.Path.{◌≡◌}
use lib.ListN.{drop}
use Rattle.lines.specs.Tokens.{tokens_of, is_empty}
use Rattle.repair.specs.Repair.{each}
use Rattle.repair.proofs.blank.Given as goal

abbrev pub invariant-loop-b : goal.invariant-loop-b
invariant-loop-b l = each is_empty (drop l.k (tokens_of l.line)) ≡ each is_empty (drop l.left (tokens_of (drop l.b-index l.line)))
