-- `character`: the text from i on begins with it.
use Rattle.reference.proofs.LoopLaws.{character_at}
use Rattle.reference.proofs.character.Goals as goal

pub returns : goal.returns
returns c = character_at _ _ c.requires c.width.ensures c.code_point.ensures c.white-blank.ensures
