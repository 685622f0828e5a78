-- The scan tells whether there is room, and whether the token is a rest.
use borrow.Author.Tests.{not-true, not-false}
use Rattle.lists.proofs.CountLaws.{rest_bytes, no_rest, pitches_long, pitches_fit}
use Rattle.lists.proofs.put_pitches.Goals as goal
use Rattle.lists.proofs.put_pitches.Goals.{else-not-scan-via-then-not-scan+else-scan-out, else-not-scan-via-else-not-scan}

pub fill_pitches-requires : goal.fill_pitches-requires
fill_pitches-requires c = (no_rest _ c.scan_token-scan.ensures (not-true _ c.if-not-scan.true), pitches_fit _ c.scan_token-scan.ensures c.args.out.now (not-true _ c.if-not-scan.true) c.if-scan-out.true)

pub returns-else-not-scan : goal.returns-else-not-scan
returns-else-not-scan c =
    elim c.else-not-scan.branch [
      | else-not-scan-via-then-not-scan+else-scan-out w ↦ pitches_long _ c.scan_token-scan.ensures c.args.out.now (not-true _ w.if-not-scan.true) w.if-scan-out.false
      | else-not-scan-via-else-not-scan w ↦ rest_bytes _ c.scan_token-scan.ensures c.args.out.now (not-false _ w.if-not-scan.false)
    ]
