-- The signifiers go behind the NOTICE where both fit.
use mathlib.Core.Path.{sym, ◌∙◌, ◌≡◌, ap}
use Prim.Native.Nat.{◌+◌, ◌≤◌}
use native.Mathlib.Omega.{arith}
use lib.ListN.{length}
use Rattle.slices.proofs.StoreLaws.{stored_not, stored_tail}
use Rattle.items.specs.Items.{items}
use Rattle.token.specs.Token.{signifiers_of}
use Rattle.sheet.proofs.NoticeLaws.{notice_length, NOTICE_length}
use Rattle.sheet.specs.Record.{notice_bytes, record_bytes}
use Rattle.state.proofs.LayLaws.{stored_length}
use Rattle.writing.proofs.WriteLaws.{stored_more}
use Rattle.writing.proofs.put_signified.Goals as goal
use Rattle.writing.proofs.put_signified.Goals.{then-out-lt-NOTICE_BYTES-via-then-out-lt-NOTICE_BYTES, then-out-lt-NOTICE_BYTES-via-else-out-lt-NOTICE_BYTES+then-out-count}

pub returns-then-out-lt-NOTICE_BYTES : goal.returns-then-out-lt-NOTICE_BYTES
returns-then-out-lt-NOTICE_BYTES c = let l = NOTICE_length c.args.notice (signifiers_of (items c.args.token.now)) in
    elim c.then-out-lt-NOTICE_BYTES.branch [
      | then-out-lt-NOTICE_BYTES-via-then-out-lt-NOTICE_BYTES w ↦ sym (stored_not _ _ (omega (arith, l, w.if-out-lt-NOTICE_BYTES)))
      | then-out-lt-NOTICE_BYTES-via-else-out-lt-NOTICE_BYTES+then-out-count w ↦ sym (stored_not _ _ (omega (arith, l, w.if-out-lt-NOTICE_BYTES, w.if-out-count)))
    ]

pub returns : goal.returns
unfolding record_bytes
returns c = let bytes = signifiers_of (items c.args.token.now) in let l : length c.put.new.out ≡ length c.args.out.now = ap length c.put.ensures ∙ stored_length c.args.out.now (notice_bytes c.args.notice) in let h : 24 + length bytes ≤ length c.args.out.now = omega arith in stored_more (notice_bytes c.args.notice) bytes c.args.out.now (notice_length c.args.notice) h c.put.ensures (stored_tail bytes c.put.new.out c.fill_signifiers.new.out 24 (omega arith) c.fill_signifiers.ensures)
