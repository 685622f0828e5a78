-- The function is the definition of its name: two bytes, of which the first is `*` and the second decides.
use native.Mathlib.Omega.{arith}
use Rattle.paths.proofs.TokenLaws.{token_is, token_long, token_rest, token_other}
use Rattle.paths.proofs.path_token.Goals as goal

pub returns-in-42 : goal.returns-in-42
returns-in-42 c = token_is _ 94 (omega arith) (omega arith) (omega arith)

pub returns-in-42-2 : goal.returns-in-42-2
returns-in-42-2 c = token_is _ 118 (omega arith) (omega arith) (omega arith)

pub returns-in-42-3 : goal.returns-in-42-3
returns-in-42-3 c = token_is _ 120 (omega arith) (omega arith) (omega arith)

pub returns-in-42-4 : goal.returns-in-42-4
returns-in-42-4 c = token_is _ 45 (omega arith) (omega arith) (omega arith)

pub returns-in-42-5 : goal.returns-in-42-5
returns-in-42-5 c = token_is _ 43 (omega arith) (omega arith) (omega arith)

pub returns-in_default : goal.returns-in_default
returns-in_default c = token_long _ (omega arith)

pub returns-in_default-2 : goal.returns-in_default-2
returns-in_default-2 c = token_rest _ (omega arith) (omega arith) (omega arith) (omega arith) (omega arith) (omega arith) (omega arith)

pub returns-in_default-3 : goal.returns-in_default-3
returns-in_default-3 c = token_other _ (omega arith) (omega arith)

pub returns-in_default-4 : goal.returns-in_default-4
returns-in_default-4 c = token_long _ (omega arith)
