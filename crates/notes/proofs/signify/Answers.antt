-- The signifiers are those that the scan counted, and a token with a bad length reports none.
use mathlib.Core.Path.{sym, ap, ◌∙◌}
use native.Mathlib.Omega.{arith}
use lib.ListN.{length}
use Rattle.items.specs.Items.{items}
use Rattle.token.specs.Token.{signifiers_of}
use Rattle.token.specs.Outcome.{reported}
use Rattle.token.proofs.FewLaws.{gives}
use Rattle.writing.specs.Kept.{signifiers_notice}
use Rattle.notes.proofs.ReportLaws.{reports_none, reports, signifiers_are}
use Rattle.notes.proofs.NoticeLaws.{noticed_none, noticed_by, signify_none, signify_as}
use Rattle.notes.proofs.signify.Goals as goal

pub returns-then-scan : goal.returns-then-scan
returns-then-scan c = noticed_none c.args.tally c.args.out.now _ (signify_none (reported c.args.token.now) c.args.spot.line c.args.spot.column (ap length (reports_none c.args.token.now c.requires.0 c.if-scan.true)))

pub returns-then-scan-eq0 : goal.returns-then-scan-eq0
returns-then-scan-eq0 c = noticed_none c.args.tally c.args.out.now _ (signify_none (reported c.args.token.now) c.args.spot.line c.args.spot.column (ap length (reports c.args.token.now c.requires.0 c.if-scan.false) ∙ sym (signifiers_are c.args.token.now c.requires.0) ∙ c.if-scan-eq0.true))

pub notify_signifiers-requires : goal.notify_signifiers-requires
notify_signifiers-requires c = let e = signifiers_are c.args.token.now c.requires.0 in
    (e, omega (arith, e, ap length (reports c.args.token.now c.requires.0 c.if-scan.false), (gives c.args.token.now).signifiers, c.requires.1))

pub returns : goal.returns
returns c = let bytes = signifiers_of (items c.args.token.now) in
    noticed_by c.args.tally (signifiers_notice c.args.spot.line c.args.spot.column bytes) bytes c.args.out.now _ (signify_as c.args.token.now bytes c.args.spot.line c.args.spot.column (reports c.args.token.now c.requires.0 c.if-scan.false) (λ z. c.if-scan-eq0.false (signifiers_are c.args.token.now c.requires.0 ∙ z))) c.notify_signifiers.ensures.1 c.notify_signifiers.ensures.0
