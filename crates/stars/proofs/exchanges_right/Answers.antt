-- Both are `*x`, and the first doesn't exchange with the one to its left.
use native.Mathlib.Omega.{arith}
use mathlib.Core.Path.{◌∙◌}
use Rattle.paths.proofs.TokenLaws.{exchange_same}
use Rattle.slices.specs.Split.{pieces}
use Rattle.spines.specs.Tokens.{path_tokens}
use Rattle.lines.proofs.PieceLaws.{piece_at_lem}
use Rattle.stars.proofs.PairLaws.{ahead_is, exchange_here, right_not, right_is}
use Rattle.stars.proofs.exchanges_right.Goals as goal

pub slice_bounds-path_token-end : goal.slice_bounds-path_token-end
slice_bounds-path_token-end c = omega (arith, piece_at_lem c.requires.1.0 c.requires.1.1)

pub returns-then-eq : goal.returns-then-eq
returns-then-eq c = let p = piece_at_lem c.requires.1.0 c.requires.1.1 in
    right_is c.requires.0 p c.if-left.false (exchange_here c.requires.0 p c.path_token.ensures (c.eq.ensures ∙ exchange_same _)) c.if-eq.true (ahead_is _ _ _ c.token_at.ensures.same c.token_at.ensures.none (c.eq-then-eq.ensures ∙ exchange_same _))

pub returns : goal.returns
returns c = right_not (path_tokens c.args.n (pieces 9 c.args.from c.args.line.now)) c.args.left
    (exchange_here c.requires.0 (piece_at_lem c.requires.1.0 c.requires.1.1) c.path_token.ensures (c.eq.ensures ∙ exchange_same _)) c.if-eq.false
