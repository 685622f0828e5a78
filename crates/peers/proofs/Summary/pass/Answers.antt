-- A column that breaks the agreement offers nothing, or other digits.
use mathlib.Core.Path.{◌∙◌}
use Rattle.peers.proofs.FoundLaws.{found_some, offers_some, whole_tally}
use Rattle.peers.proofs.MeetLaws.{lacks_some, lacks_whole}
use Rattle.peers.proofs.Summary.pass.Goals as goal
use Rattle.peers.proofs.Summary.pass.Goals.{else-not-self-via-then-not-self+then-matches+else-is_none, in-Broken, in_default, else-not-self-via-then-not-self+else-matches, else-not-self-via-else-not-self}

pub returns : goal.returns
returns c =
    elim c.else-not-self.branch [
      | else-not-self-via-then-not-self+then-matches+else-is_none w ↦
          rw (w.if-not-self.true, c.meet-found.ensures) (lacks_some _ _ (offers_some _ w.offer.result w.offer.ensures w.if-is_none.ensures))
      | else-not-self-via-then-not-self+else-matches w ↦
          rw (w.if-not-self.true, c.meet-found.ensures)
          (lacks_whole _ _ (found_some c.args.self.found)
          (elim w.match-matches.branch [
            | in-Broken x ↦ cc
            | in_default x ↦ λ e. whole_tally c.meet-found.result x.in_default.not-Broken (c.meet-found.ensures ∙ e)
          ]))
      | else-not-self-via-else-not-self w ↦ rw (w.if-not-self.false, c.meet-found.ensures)
    ]
