-- A star alone, an attribute after a note, or what the text behind the star says.
use borrow.Author.Rules.{rules}
use Rattle.interpretation.proofs.MarkLaws.{says_first, says_after}
use Rattle.interpretation.proofs.interpret.Goals as goal
use Rattle.interpretation.proofs.interpret.Goals.{else-noted-via-then-noted+else-is_attribute, else-noted-via-else-noted}

pub returns : goal.returns
returns c =
    elim c.else-noted.branch [
      | else-noted-via-then-noted+else-is_attribute w ↦ says_after _ _ c.tail-body.ensures (search rules) w.if-noted.true w.is_attribute.ensures w.if-is_attribute.false c.meaning.ensures
      | else-noted-via-else-noted w ↦ says_first _ _ c.tail-body.ensures (search rules) w.if-noted.false c.meaning.ensures
    ]
