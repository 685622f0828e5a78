-- The chain goes over the ten values.
use Rattle.std.proofs.Common.{rules}
use Rattle.gap.specs.Values.{triplet_by}
use Rattle.gap.proofs.SearchLaws.{longest_is}
use Rattle.gap.proofs.Time.triplet.Goals as goal

pub returns : goal.returns
returns c = longest_is _ _ (triplet_by c.args.self.divisions c.args.self.ticks) (λ x r q k. search rules) c.find_map.result c.find_map.ensures.runs
