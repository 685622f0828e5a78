-- The answer as `kern_read` gives it, and the list behind it.
use Prim.Native.Nat.{ℕ}
use native.Mathlib.Omega.{arith}
use mathlib.Core.Path.{sym, ap, ◌∙◌}
use mathlib.Core.List.{List}
use Rattle.slices.specs.Store.{stored}
use Rattle.holders.specs.declared.list.Holder.{Holder}
use Rattle.kern_ffi.specs.Answer.{entry_numbers}
use Rattle.kern_ffi.proofs.AnswerLaws.{answers}
use Rattle.kern_ffi.proofs.LineLaws.{five_entries}
use Rattle.kern_ffi.proofs.causes.kern_read_lines.Goals as goal

pub returns : goal.returns
returns c =
    let e = c.read_with_lines-explained.ensures in
    let a = answers c.args.text.now c.args.out.now _ _ (λ (i : ℕ). omega (arith, c.type_inv.text i)) e.answer c.put_answer.ensures.number c.put_answer.ensures.answer e.buffer in
    record {
      number = a.number;
      answer = a.answer;
      buffer = a.buffer;
      played = a.played;
      needed = a.needed;
      stopped = a.stopped;
      joined = a.joined;
      lines = c.put_lines.ensures ∙ ap (λ (hs : List Holder). stored c.args.lines.now (entry_numbers hs)) (c.as_slice.ensures.all ∙ e.lines);
      filled = λ z. five_entries c.args.lines.now c.read_with_lines-explained.result.answer (sym c.put_answer.ensures.number ∙ z) e.filled c.as_slice.ensures.all c.put_lines.ensures (omega arith);
    }
