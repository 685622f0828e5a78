-- The first column whose spine is kern decides, else the first.
use Rattle.std.proofs.Common.{ap, sym, ℕ, List, Bor, length-take-le, rules, tests, arith}
use Rattle.std.specs.Option.{option_map}
use Rattle.lines.proofs.PieceLaws.{end_low}
use Rattle.std.proofs.lemmas.Iterator.{YieldsList-from_slice, YieldsList-from_zip}
use Rattle.std.proofs.lemmas.Iterator.Search.{find_from_yields_List}
use Rattle.lines.proofs.ChainLaws.{YieldsList-from_tokens}
use Rattle.bars.proofs.DecidingLaws.{in_kern, deciding_empty, deciding_found, deciding_none}
use Rattle.bars.proofs.deciding.Goals as goal

pub returns-then-is_empty : goal.returns-then-is_empty
returns-then-is_empty c = deciding_empty c.args.line.now c.args.row.now (search (rules, tests))

pub slice_bounds-result-end-in-None : goal.slice_bounds-result-end-in-None
slice_bounds-result-end-in-None c = let e = end_low _ 0 _ (omega arith) c.token_end-first.ensures in sym (length-take-le c.token_end-first.result c.args.line.now e.1)

pub returns-in-Some : goal.returns-in-Some
returns-in-Some c =
    deciding_found c.args.line.now c.args.row.now (search (rules, tests)) c.token_end-first.ensures _ (find_from_yields_List in_kern c.find-kern.new.self _ c.find-kern.result c.find-kern.ensures.ran (YieldsList-from_zip {s = c.zip.result} (YieldsList-from_slice c.args.row.now (cc)) (YieldsList-from_tokens _ c.args.line.now (cc) (cc) (cc) (λ x b q k. search (rules, tests)))) (λ x b q k. search (rules, tests)))
    _ (ap (option_map (λ (p : Bor ℕ × Bor (List ℕ)). (p.0.now, p.1.now))) c.in-Some.is)

pub returns-in-None : goal.returns-in-None
returns-in-None c =
    deciding_none c.args.line.now c.args.row.now (search (rules, tests)) c.token_end-first.ensures _ (find_from_yields_List in_kern c.find-kern.new.self _ c.find-kern.result c.find-kern.ensures.ran (YieldsList-from_zip {s = c.zip.result} (YieldsList-from_slice c.args.row.now (cc)) (YieldsList-from_tokens _ c.args.line.now (cc) (cc) (cc) (λ x b q k. search (rules, tests)))) (λ x b q k. search (rules, tests)))
    (ap (option_map (λ (p : Bor ℕ × Bor (List ℕ)). (p.0.now, p.1.now))) c.in-None.is)
