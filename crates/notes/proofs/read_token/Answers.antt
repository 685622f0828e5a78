-- The scan is that of the token, and its outcome decides.
use mathlib.Core.Path.{ap, ◌∙◌}
use native.Mathlib.Omega.{arith}
use Rattle.std.specs.Prelude.{Ok}
use Rattle.state.proofs.CountLaws.{same, same_same}
use Rattle.token.specs.Outcome.{outcome_of}
use Rattle.token.specs.declared.scan.Scan.{Scan}
use Rattle.token.proofs.AccountLaws.{heard_lists}
use Rattle.notes.proofs.TokenLaws.{null_step, silent_step, unread_step, heard_step, kept_same}
use Rattle.notes.proofs.read_token.Goals as goal

pub returns-then-is_null : goal.returns-then-is_null
returns-then-is_null c = (λ cells. null_step cells c.args.parts.now c.args.token.now c.args.out.now c.args.inferred c.args.spot c.args.tally c.is_null.ensures c.if-is_null.true, same c.args.tally)

pub returns-in-Ok-None : goal.returns-in-Ok-None
returns-in-Ok-None c = (λ cells. silent_step cells c.args.parts.now c.args.token.now c.args.inferred c.args.spot c.is_null.ensures c.if-is_null.false c.scan_token-scan.ensures c.signify-t.ensures c.kern_token.ensures (c.in-Ok-None.is ∙ ap Ok c.in-Ok-None.field-0-is), c.signify-t.ensures.same)

pub returns-in-Err : goal.returns-in-Err
returns-in-Err c = (λ cells. unread_step cells c.args.parts.now c.args.token.now c.args.inferred c.args.spot c.is_null.ensures c.if-is_null.false c.scan_token-scan.ensures c.signify-t.ensures c.kern_token.ensures c.in-Err.is c.from.ensures c.notify_token.ensures, same_same c.signify-t.ensures.same c.notify_token.ensures.same)

pub add_note-requires : goal.add_note-requires
add_note-requires c = let p = c.requires in
    let k = c.signify-t.ensures.same in
    let l = heard_lists c.args.token.now c.args.inferred (c.kern_token.ensures ∙ ap (λ (x : Scan). outcome_of x c.args.inferred) c.scan_token-scan.ensures) (c.in-Ok-Some.is ∙ ap Ok c.in-Ok-Some.field-0-is) in
    (record { short = p.short; parts_few = omega (arith, k.parts, p.parts_few); bars_few = omega (arith, k.bars, p.bars_few); part_in = omega (arith, k.parts, p.part_in); voice_in = p.voice_in }, (l.pitches, l.articulations))

pub returns-in-Ok-Some : goal.returns-in-Ok-Some
returns-in-Ok-Some c = (λ cells. heard_step cells c.args.parts.now c.args.token.now c.args.inferred c.args.spot c.is_null.ensures c.if-is_null.false c.scan_token-scan.ensures c.signify-t.ensures c.kern_token.ensures (c.in-Ok-Some.is ∙ ap Ok c.in-Ok-Some.field-0-is) (c.add_note.ensures.0 cells), kept_same c.signify-t.ensures.same c.add_note.result c.add_note.ensures.1)
