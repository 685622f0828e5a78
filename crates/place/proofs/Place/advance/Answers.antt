-- Where the next line begins: the line's end is inside the text, so one more fits.
use native.Mathlib.Omega.{arith}
use Rattle.lines.proofs.PieceLaws.{piece_at_lem}
use Rattle.place.proofs.Place.advance.Goals as goal

pub overflow_add-self : goal.overflow_add-self
overflow_add-self c = omega (arith, (piece_at_lem c.requires.0 c.line_end.ensures).high)
