-- The line ends inside the text, and is no longer without its CRs.
use mathlib.Core.Path.{ap}
use Prim.Native.Nat.{ℕ, ◌-◌}
use native.Mathlib.Omega.{arith}
use lib.ListN.{length, take, drop, length-take}
use Rattle.lines.proofs.PieceLaws.{Piece, piece_at_lem}
use Rattle.lines.proofs.TrimLaws.{content_short}
use Rattle.place.proofs.Place.take_line.Goals as goal

-- the line that the place moves past
here : (c : goal.After-advance) → Piece 10 c.args.text.bytes.now c.args.self.now.at (c.advance.new.self.at - 1)
here c = piece_at_lem c.if-text-at.false (omega arith)

pub content-bytes-requires : goal.content-bytes-requires
content-bytes-requires c = let p = here c in (p.low, p.high)

pub new-requires : goal.new-requires
new-requires c =
    let from = c.args.self.now.at in
    let end : ℕ = c.advance.new.self.at - 1 in
    let bytes = take (end - from) (drop from c.args.text.bytes.now) in
    let p : Piece 10 c.args.text.bytes.now from end = piece_at_lem c.if-text-at.false (omega arith) in
    omega (arith, p.low, p.high, c.args.text.short, ap length c.content-bytes.ensures, content_short bytes, length-take (end - from) (drop from c.args.text.bytes.now))
