-- What was met so far, of the bytes alone.
use Rattle.peers.specs.Peers.{Tally, none, one, more, broken, Agreement}
use Rattle.peers.specs.declared.Found.{Found}
use Rattle.peers.specs.declared.Found.TheVariants.{Empty, One, More, Broken}
use Rattle.peers.specs.declared.Summary.{Summary}

abbrev pub tally_of : Found → Tally
tally_of Empty = none
tally_of (One o) = one o.bytes.now
tally_of (More o) = more o.bytes.now
tally_of Broken = broken

abbrev pub agreement_of : Summary → Agreement
agreement_of s = record { lacking = s.lacking; tally = tally_of s.found }
