use Prim.Native.Nat.{ℕ}
use native.Mathlib.Omega.{arith}
use mathlib.Core.List.{List}
use Rattle.state.specs.View.{state_of}
use Rattle.reader.proofs.FinishLaws.{not_begun, no_note, some_note}
use Rattle.reader.proofs.finish_text.Goals as goal

pub returns-then-not-begun : goal.returns-then-not-begun
returns-then-not-begun c = λ (cells : List ℕ). not_begun (state_of cells c.args.parts.now c.args.tally) c.args.tally.at c.args.out.now c.if-not-begun.true

pub returns-then-tally-eq0 : goal.returns-then-tally-eq0
returns-then-tally-eq0 c = λ (cells : List ℕ). no_note (state_of cells c.args.parts.now c.args.tally) c.args.tally.at c.args.out.now c.if-not-begun.false c.if-tally-eq0.true

pub returns : goal.returns
returns c = λ (cells : List ℕ). some_note cells c.args.parts.now c.args.tally c.args.out.now (omega (arith, c.requires.0, c.told-parts)) c.if-not-begun.false c.if-tally-eq0.false (c.finish-at.ensures cells)
