-- Each answer is a case of `repaired_of`: surplus tokens, too few, or as many as spines.
use Rattle.std.proofs.Common.{◌≡◌, false, Err, sym, ap, ◌∙◌, arith}
use Rattle.lines.specs.Tokens.{tokens_of}
use Rattle.repair.specs.Repair.{each, is_ordinary}
use Rattle.repair.specs.declared.Unrepaired.TheVariants.{Uneven}
use Rattle.repair.proofs.RepairLaws.{surplus, cut_mixed, cut_even, filled_stars, few_one, few_other, filled_bars_lem, whole_mixed, whole_even}
use Rattle.repair.proofs.repair_record.Goals as goal
use Rattle.repair.proofs.repair_record.Goals.{else-count-ge2-via-then-count-ge2+else-identical_bars, else-count-ge2-via-else-count-ge2}

pub returns-then-not-blank : goal.returns-then-not-blank
returns-then-not-blank c = ap (λ k. Err (Uneven k)) c.token_count-count.ensures.0 ∙ surplus _ _ (omega arith) (sym c.blank.ensures ∙ c.if-not-blank.true)

pub returns-then-mixed : goal.returns-then-mixed
returns-then-mixed c = cut_mixed _ _ (omega arith) (sym c.blank.ensures ∙ c.if-not-blank.false) (sym c.mixed.ensures ∙ c.if-mixed.true)

pub returns-then-active-count : goal.returns-then-active-count
returns-then-active-count c = cut_even _ _ (omega arith) (sym c.blank.ensures ∙ c.if-not-blank.false) (sym c.mixed.ensures ∙ c.if-mixed.false)

pub returns-then-ordinary : goal.returns-then-ordinary
returns-then-ordinary c = filled_stars _ _ (omega arith) (sym c.ordinary.ensures ∙ c.if-ordinary.true)

pub returns-then-identical_bars : goal.returns-then-identical_bars
returns-then-identical_bars c = filled_bars_lem _ _ (omega arith) (sym c.ordinary.ensures ∙ c.if-ordinary.false) (omega arith) (sym c.identical_bars.ensures ∙ c.if-identical_bars.true)

pub returns-then-count-active : goal.returns-then-count-active
returns-then-count-active c =
    let o : each is_ordinary (tokens_of c.args.line.now) ≡ false = sym c.ordinary.ensures ∙ c.if-ordinary.false in
    ap (λ k. Err (Uneven k)) c.token_count-count.ensures.0
    ∙ elim c.else-count-ge2.branch [
      | else-count-ge2-via-then-count-ge2+else-identical_bars w ↦ few_other _ _ (omega arith) o (omega arith) (sym w.identical_bars.ensures ∙ w.if-identical_bars.false)
      | else-count-ge2-via-else-count-ge2 w ↦ few_one _ _ (omega arith) o (omega arith)
    ]

pub returns-then-mixed-2 : goal.returns-then-mixed-2
returns-then-mixed-2 c = whole_mixed _ _ _ c.token_count-count.ensures.0 (omega arith) (sym c.mixed-2.ensures ∙ c.if-mixed-2.true)

pub returns : goal.returns
returns c = whole_even _ _ _ c.token_count-count.ensures.0 (omega arith) (sym c.mixed-2.ensures ∙ c.if-mixed-2.false)
