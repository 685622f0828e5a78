-- A bit stands for each byte.
use native.Mathlib.Omega.{arith}
use Rattle.scan.proofs.MaskLaws.{low_unknown, high_unknown, all_unknown}
use Rattle.scan.proofs.is_unknown.Goals as goal

pub returns-then-b-lt64 : goal.returns-then-b-lt64
returns-then-b-lt64 c = low_unknown _ c.if-b-lt64.true

pub returns-then-b-lt128 : goal.returns-then-b-lt128
returns-then-b-lt128 c = high_unknown _ c.if-b-lt64.false c.if-b-lt128.true

pub returns : goal.returns
returns c = all_unknown _ c.if-b-lt128.false (omega arith)
