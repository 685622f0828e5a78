-- The end of the buffer comes back with the NOTICE and the signifiers at its start.
use mathlib.Core.Path.{refl, ◌∙◌, ap, sym}
use Prim.Native.Nat.{ℕ, ◌+◌}
use Rattle.items.specs.Items.{items}
use Rattle.token.specs.Token.{signifiers_of}
use Rattle.sheet.specs.Record.{NOTICE}
use Rattle.sheet.proofs.NoticeLaws.{NOTICE_length}
use Rattle.writing.proofs.WriteLaws.{wrote}
use Rattle.writing.proofs.write_signified.Goals as goal

pub returns : goal.returns
returns c = wrote (NOTICE c.args.notice (signifiers_of (items c.args.token.now))) c.args.out.now c.args.at refl (NOTICE_length c.args.notice (signifiers_of (items c.args.token.now)) ∙ ap (λ (k : ℕ). 24 + k) (sym c.requires.0)) c.min-k.ensures c.put_signified.ensures c.past.ensures
