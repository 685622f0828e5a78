-- The scan finds a bad length exactly where there is one.
use mathlib.Core.Path.{◌≡◌, refl, sym, ◌∙◌}
use mathlib.Core.List.{List, [], ◌∷◌}
use mathlib.Core.Bool.{Bool, true, false, cond, not, ◌&&◌, ◌||◌, or-false, or_assoc}
use lib.Dec.{eqb}
use Rattle.items.specs.declared.Item.{Item}
use Rattle.items.specs.declared.Item.TheVariants.{Digits, Ratio, Letters, Blank, Mark}
use Rattle.token.specs.declared.scan.Before.TheVariants.{Right, Ratio as Ratio_before}
use Rattle.token.specs.Token.{is_nothing, passed, percent_bad, bad_length}
use Rattle.scan.specs.Steps.{step_lengths}
use Rattle.scan.specs.declared.Lengths.{Lengths}
use Rattle.scan.proofs.FoldLaws.{fold}

at_mark : (t bad percent rest : Bool) → (cond t (bad || percent) bad || rest) ≡ (bad || (t && percent || rest))
at_mark true bad percent rest = or_assoc bad percent rest
at_mark false bad percent rest = refl

pub bad_fold : (l : Lengths) (is : List Item) → (fold step_lengths l is).bad ≡ (l.bad || bad_length l.later l.begun l.before is)
unfolding bad_length
bad_fold l [] = sym (or-false l.bad)
bad_fold l (Digits v ∷ is) = bad_fold (step_lengths l (Digits v)) is ∙ or_assoc l.bad (not (is_nothing l.before)) (bad_length l.later true Right is)
bad_fold l (Ratio v ∷ is) = bad_fold (step_lengths l (Ratio v)) is ∙ or_assoc l.bad (not (is_nothing l.before) || l.later) (bad_length l.later true Ratio_before is)
bad_fold l (Letters c n ∷ is) = bad_fold (step_lengths l (Letters c n)) is
bad_fold l (Blank ∷ is) = bad_fold (step_lengths l Blank) is
bad_fold l (Mark b ∷ is) = bad_fold (step_lengths l (Mark b)) is ∙ at_mark (eqb b 37) l.bad (percent_bad l.before) (bad_length l.later true (passed l.before) is)
