-- `kern_read` meets its contract. Assumes nothing.
use Prim.Native.Nat.{ℕ}
use native.Mathlib.Omega.{arith}
use Rattle.kern_ffi.proofs.AnswerLaws.{answers}
use Rattle.kern_ffi.proofs.kern_read.Goals as goal

pub returns : goal.returns
returns c =
    let e = c.read-said.ensures in
    answers c.args.text.now c.args.out.now _ _ (λ (i : ℕ). omega (arith, c.type_inv.text i)) e.answer c.put_answer.ensures.number c.put_answer.ensures.answer e.buffer
