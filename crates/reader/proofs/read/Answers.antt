use Prim.Native.Nat.{ℕ}
use native.Mathlib.Omega.{arith}
use Rattle.std.proofs.lemmas.Result.{err_from_is_err_and}
use Rattle.refusal.specs.declared.Refusal.TheVariants.{TooLong, NotUtf8}
use Rattle.reader.proofs.AnswerLaws.{answers_refused, answers_short, answers_written, too_long, not_utf8_at, utf8_whole, measured_long, told_written, told_refused}
use Rattle.reader.proofs.read.Goals as goal

pub returns-then-text-gt-MOST_BYTES : goal.returns-then-text-gt-MOST_BYTES
returns-then-text-gt-MOST_BYTES c = answers_refused c.args.text.now c.args.out.now (TooLong _) (too_long c.args.text.now c.if-text-gt-MOST_BYTES.true)

pub returns-then-good-text : goal.returns-then-good-text
returns-then-good-text c = answers_refused c.args.text.now c.args.out.now (NotUtf8 _) (not_utf8_at c.args.text.now c.if-text-gt-MOST_BYTES.false c.if-good-text.true c.utf8_length-good.ensures.0)

pub returns-in_err-written : goal.returns-in_err-written
returns-in_err-written c =
    let p = err_from_is_err_and c.from_residual.result c.from_residual.ensures.1 in
    rw (p.1, p.2) (answers_refused c.args.text.now c.args.out.now _ (told_refused c.args.text.now c.measure.result c.measure.ensures c.in_err-written.was))

pub overflow_add-needed : goal.overflow_add-needed
overflow_add-needed c = omega (arith, measured_long (told_written c.args.text.now c.measure.result c.measure.ensures c.in_ok-written.was))

pub returns-then-out-needed : goal.returns-then-out-needed
returns-then-out-needed c = answers_short c.args.out.now (told_written c.args.text.now c.measure.result c.measure.ensures c.in_ok-written.was) c.if-out-needed.true

pub write_sheet-requires : goal.write_sheet-requires
write_sheet-requires c = record {
  utf8 = utf8_whole c.args.text.now c.utf8_length-good.ensures c.if-good-text.false;
  measured = told_written c.args.text.now c.measure.result c.measure.ensures c.in_ok-written.was;
  room = c.if-out-needed.false;
}

pub returns : goal.returns
returns c = answers_written {text = c.args.text.now} c.args.out.now (λ (i : ℕ). omega (arith, c.type_inv.text i)) (told_written c.args.text.now c.measure.result c.measure.ensures c.in_ok-written.was) c.if-out-needed.false c.write_sheet.ensures
