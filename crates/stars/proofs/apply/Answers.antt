-- The part changed and the first tempo are what is applied; what is not read gives its notice.
use native.Mathlib.Omega.{arith}
use Rattle.stars.proofs.ApplyLaws.{apply_comes, notice_comes}
use Rattle.stars.proofs.apply.Goals as goal

pub returns-in-Ok : goal.returns-in-Ok
returns-in-Ok c =
    apply_comes c.args.token.bytes.now c.args.p c.args.token.line c.args.token.column c.args.token.offset _ c.args.parts.now c.args.tally c.requires.0 (omega (arith, c.requires.1, c.told-parts)) c.interpret.ensures c.in-Ok.is c.change.ensures c.first_tempo.ensures

pub returns-in-Err : goal.returns-in-Err
returns-in-Err c =
    notice_comes c.args.token.bytes.now c.args.p c.args.token.line c.args.token.column c.args.token.offset _ c.args.parts.now c.args.tally c.requires.0 (omega (arith, c.requires.1, c.told-parts)) c.interpret.ensures c.in-Err.is c.from.ensures c.notify.ensures
