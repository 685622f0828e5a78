-- The value of the length that is named.
use Rattle.peers.proofs.FoundLaws.{value_of_digits}
use Rattle.peers.proofs.agreed_duration.Goals as goal

pub returns : goal.returns
returns c = value_of_digits c.agreed_reciprocal.result c.and_then.ensures c.agreed_reciprocal.ensures
