-- The chain goes over so many values, the shortest first.
use Rattle.std.proofs.Common.{rules}
use Rattle.gap.specs.Values.{tuplet_by}
use Rattle.gap.proofs.SearchLaws.{shortest_is}
use Rattle.gap.proofs.Time.tuplet.Goals as goal

pub returns : goal.returns
returns c =
    shortest_is _ _ (tuplet_by c.args.self.divisions c.args.self.ticks) (λ x r q k. search rules) c.find_map.result c.args.values c.rev.ensures.runs c.find_map.ensures.runs
