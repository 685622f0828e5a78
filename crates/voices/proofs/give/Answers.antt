-- The row's outcome is that of the cells passed, with their voices, and of the rest, by what the whole row holds; the masks tell it.
use Rattle.std.proofs.Common.{ℕ, sym, ap, ◌∙◌, arith}
use lib.ListN.{get_or}
use Rattle.std.proofs.lemmas.List.{set-get_or}
use Rattle.voices.specs.Mask.{bit}
use Rattle.spines.proofs.CellLaws.{branch_part}
use Rattle.voices.proofs.MaskLaws.{lowest_low}
use Rattle.voices.proofs.GiveLaws.{giving_first, giving_keep, giving_voice, giving_none, giving_past}
use Rattle.voices.proofs.give.Goals as goal
use Rattle.voices.proofs.give.Goals.{then-is_branch+in-Some, else-is_branch}

pub loop-cell-init : goal.loop-cell-init
loop-cell-init c = giving_first c.requires

pub voiced-requires : goal.voiced-requires
voiced-requires c = lowest_low (bit (get_or c.loop-cell.masks c.place-q.result 0)) _ c.in-Some.ensures

pub with_voice-requires : goal.with_voice-requires
with_voice-requires c = lowest_low (bit (get_or c.loop-cell.masks c.place-q.result 0)) _ c.in-Some.ensures

pub overflow_sub-result : goal.overflow_sub-result
overflow_sub-result c = branch_part (get_or c.loop-cell.cells c.loop-cell.cell-index 0) (sym c.is_branch.ensures ∙ c.if-is_branch.true)

pub returns-in-None : goal.returns-in-None
returns-in-None c =
    giving_none c.loop-cell.invariant (omega arith) (sym c.is_branch.ensures ∙ c.if-is_branch.true) (ap (λ (k : ℕ). get_or c.loop-cell.masks k 0) c.place-q.ensures.0) c.in-None.ensures

pub loop-cell-preserved : goal.loop-cell-preserved
loop-cell-preserved c =
    elim c.if-is_branch.branch [
      | then-is_branch+in-Some w ↦ rw (w.cells-is, w.masks-is) (
          giving_voice c.loop-cell.invariant (omega arith) (sym c.is_branch.ensures ∙ w.if-is_branch.true) (ap (λ (k : ℕ). get_or c.loop-cell.masks k 0) w.place-q.ensures.0)
          w.in-Some.ensures w.voiced.ensures w.place-q.ensures.0 (omega (arith, w.place-q.ensures)) w.with_voice.ensures
          )
      | else-is_branch w ↦ rw (w.cells-is, w.masks-is, set-get_or c.loop-cell.cells c.loop-cell.cell-index 0) (giving_keep c.loop-cell.invariant (omega arith) (sym c.is_branch.ensures ∙ w.if-is_branch.false))
    ]

pub returns : goal.returns
returns c = giving_past c.loop-cell.invariant (omega arith)
