-- A repaired record as far as paths go.
use Rattle.std.specs.Prelude.{ℕ, List, map, cond, length}
use Rattle.lines.specs.Tokens.{tokens_of, is_star}
use Rattle.paths.specs.Token.{path_token}
use Rattle.paths.specs.Record.{Rec, star, plain}
use Rattle.repair.specs.Repair.{repaired}

-- begun by `*` its path tokens, of any other record the count
unfoldable pub record_of : ℕ → List ℕ → Rec
record_of n line =
    cond (is_star line) (star (map path_token (repaired n (tokens_of line)))) (plain (length (repaired n (tokens_of line))))
