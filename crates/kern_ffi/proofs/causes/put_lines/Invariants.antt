-- The entries so far stand at the start of the array.
use Rattle.kern_ffi.proofs.LineLaws.{Laid}
use Rattle.kern_ffi.proofs.causes.put_lines.Given as goal

abbrev pub invariant-loop-i : goal.invariant-loop-i
invariant-loop-i l = Laid l.initial.lines l.entries l.lines l.i
