-- The bytes up to i are all b.
use mathlib.Core.List.{[], ◌∷◌}
use Rattle.plain.specs.Usual.{Run}
use Rattle.plain.proofs.run_end.Given as goal

abbrev pub invariant-loop-i : goal.invariant-loop-i
invariant-loop-i l = Run (l.b ∷ []) l.line l.from l.i
