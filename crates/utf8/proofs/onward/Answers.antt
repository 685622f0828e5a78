-- `onward`: each branch passes what it has seen to be well formed, and more than nothing where a character stands at i.
use native.Mathlib.Omega.{arith}
use Rattle.utf8.proofs.BlockLaws.{run_one, blocks_first, blocks_turn, blocks_on, two_on, three_on, onward_run, onward_char}
use Rattle.utf8.proofs.onward.Goals as goal

pub overflow_add-result : goal.overflow_add-result
overflow_add-result c = omega (arith, (onward_char c.args.s.now c.args.i (omega arith) c.char_length.ensures).0.high)

pub returns-then-s-i-lt16 : goal.returns-then-s-i-lt16
returns-then-s-i-lt16 c = onward_char c.args.s.now c.args.i (omega arith) c.char_length.ensures

pub returns-then-joined-ge128 : goal.returns-then-joined-ge128
returns-then-joined-ge128 c = onward_run (blocks_turn (blocks_first (omega arith)) 1 (omega arith) (run_one c.args.s.now c.args.i c.if-s-i-lt128.true)) (omega arith)

pub returns-then-beyond : goal.returns-then-beyond
returns-then-beyond c = onward_run (blocks_turn (blocks_first (omega arith)) 4 (omega arith) (c.joined.ensures c.if-joined-ge128.false)) (omega arith)

pub returns-then-s-i-lt128 : goal.returns-then-s-i-lt128
returns-then-s-i-lt128 c = onward_run (blocks_on (blocks_turn (blocks_first (omega arith)) 16 (omega arith) (c.joined-beyond.ensures c.if-beyond.false)) c.blocks_64.ensures) (omega (arith, c.blocks_64.ensures.low))

pub rows-twos-requires-clause-listed : goal.rows-twos-requires-clause-listed
rows-twos-requires-clause-listed c = λ i. two_on c.args.s.now i

pub rows-threes-requires-clause-listed : goal.rows-threes-requires-clause-listed
rows-threes-requires-clause-listed c = λ i. three_on c.args.s.now i

pub overflow_add-result-2 : goal.overflow_add-result-2
overflow_add-result-2 c = omega (arith, (onward_char c.args.s.now c.args.i (omega arith) c.char_length-2.ensures).0.high)

pub returns : goal.returns
returns c = onward_char c.args.s.now c.args.i (omega arith) c.char_length-2.ensures
