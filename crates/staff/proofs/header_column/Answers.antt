-- The first of the lines that is a record.
use mathlib.Core.Path.{sym, ap, ◌∙◌}
use mathlib.Core.List.{List}
use Prim.Native.Nat.{ℕ}
use Rattle.std.proofs.Common.{rules, Some, None}
use borrow.Author.Tests.{tests}
use Rattle.std.proofs.lemmas.Iterator.{YieldsList-from_map_by}
use Rattle.std.proofs.lemmas.Iterator.Search.{find_from_yields_List}
use Rattle.std.proofs.lemmas.Iterator.Consumers.{YieldsList-at}
use Rattle.lines.specs.Lines.{without_crs, kind_of}
use Rattle.reading.specs.Records.{is_record}
use denote.Ref.{Bor}
use Rattle.std.specs.Option.{option_map}
use Rattle.holders.specs.Walk.{or_zero, kern_column}
use Rattle.staff.proofs.WalkLaws.{YieldsList-from_lines, by_none, heads_of}
use Rattle.staff.proofs.header_column.Goals as goal

pub returns-in_err-header-clause-number : goal.returns-in_err-header-clause-number
returns-in_err-header-clause-number c =
    let f = find_from_yields_List (λ (l : List ℕ). is_record (kind_of l)) _ _ c.find.result c.find.ensures.ran
    (YieldsList-from_map_by _ (λ r. r.now) without_crs (YieldsList-at c.map-lines.ensures.source (YieldsList-from_lines _ c.args.text.now (cc) (cc) (cc) (λ x b q k. search (rules, tests)))) (cc) (λ x r q k. search (rules, tests)))
    (λ x b q k. search (rules, tests)) in
    ap or_zero c.from_residual.ensures ∙ (by_none c.args.part ∙ ap (kern_column 0 c.args.part) (heads_of c.args.text.now {r = None} (sym (ap (option_map (λ (y : Bor (List ℕ)). y.now)) c.in_err-header.was) ∙ f)))

pub returns-clause-number : goal.returns-clause-number
returns-clause-number c =
    let f = find_from_yields_List (λ (l : List ℕ). is_record (kind_of l)) _ _ c.find.result c.find.ensures.ran
    (YieldsList-from_map_by _ (λ r. r.now) without_crs (YieldsList-at c.map-lines.ensures.source (YieldsList-from_lines _ c.args.text.now (cc) (cc) (cc) (λ x b q k. search (rules, tests)))) (cc) (λ x r q k. search (rules, tests)))
    (λ x b q k. search (rules, tests)) in
    c.kern_column.ensures.number
    ∙ ap (kern_column 0 c.args.part) (heads_of c.args.text.now {r = Some c.in_ok-header.header.now} (sym (ap (option_map (λ (y : Bor (List ℕ)). y.now)) c.in_ok-header.was) ∙ f))
