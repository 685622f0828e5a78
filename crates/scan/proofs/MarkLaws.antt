-- The scan keeps what the single bytes of a token say.
use mathlib.Core.Path.{◌≡◌, refl, sym, ◌∙◌}
use Prim.Native.Nat.{ℕ, ◌+◌, ◌≤◌}
use native.Mathlib.Omega.{arith}
use mathlib.Core.List.{List, [], ◌∷◌}
use mathlib.Core.Bool.{Bool, true, false, cond, ◌||◌, or-false, or_assoc}
use lib.Dec.{ltb}
use lib.ListN.{length}
use Rattle.slices.specs.Ascii.{ascii}
use Rattle.notation.specs.Bytes.{contains}
use Rattle.items.specs.declared.Item.{Item}
use Rattle.items.specs.declared.Item.TheVariants.{Digits, Ratio, Letters, Blank, Mark}
use Rattle.token.specs.Token.{marks, any_of, grace_from, articulation, articulations_in}
use Rattle.scan.specs.Steps.{step_marks}
use Rattle.scan.specs.declared.Marks.{Marks}
use Rattle.scan.proofs.FoldLaws.{fold}

pub record Marked (m n : Marks) (bs : List ℕ) : Type 0 where
  pub ties : n.ties ≡ (m.ties || any_of (ascii "[_") bs)
  pub tied : n.tied ≡ (m.tied || any_of (ascii "]_") bs)
  pub slurs : n.slurs ≡ (m.slurs || any_of (ascii "(") bs)
  pub slurred : n.slurred ≡ (m.slurred || any_of (ascii ")") bs)
  pub grace : n.grace ≡ grace_from m.grace bs
  pub articulations : n.articulations ≡ m.articulations + length (articulations_in bs)

one_more : (t : Bool) (n a : ℕ) (l : List ℕ) → cond t 1 0 + n + length l ≡ n + length (cond t (a ∷ l) l)
one_more true n a l = omega arith
one_more false n a l = omega arith

pub marks_fold : (m : Marks) (is : List Item) → Marked m (fold step_marks m is) (marks is)
unfolding marks any_of grace_from articulations_in
marks_fold m [] =
    record {
      ties = sym (or-false m.ties);
      tied = sym (or-false m.tied);
      slurs = sym (or-false m.slurs);
      slurred = sym (or-false m.slurred);
      grace = refl;
      articulations = omega arith;
    }
marks_fold m (Digits v ∷ is) = marks_fold m is
marks_fold m (Ratio v ∷ is) = marks_fold m is
marks_fold m (Letters c n ∷ is) = marks_fold m is
marks_fold m (Blank ∷ is) = marks_fold m is
marks_fold m (Mark b ∷ is) =
    let e = marks_fold (step_marks m (Mark b)) is in
    record {
      ties = e.ties ∙ or_assoc m.ties (contains b (ascii "[_")) (any_of (ascii "[_") (marks is));
      tied = e.tied ∙ or_assoc m.tied (contains b (ascii "]_")) (any_of (ascii "]_") (marks is));
      slurs = e.slurs ∙ or_assoc m.slurs (contains b (ascii "(")) (any_of (ascii "(") (marks is));
      slurred = e.slurred ∙ or_assoc m.slurred (contains b (ascii ")")) (any_of (ascii ")") (marks is));
      grace = e.grace;
      articulations = e.articulations ∙ one_more (ltb (articulation b) 5) m.articulations (articulation b) (articulations_in (marks is));
    }

-- the count grows by no more than one
few : (t : Bool) (n : ℕ) → cond t 1 0 + n ≤ n + 1
few true n = omega arith
few false n = omega arith

pub slow_marks : (m : Marks) (i : Item) → (step_marks m i).articulations ≤ m.articulations + 1
slow_marks m (Digits v) = omega arith
slow_marks m (Ratio v) = omega arith
slow_marks m (Letters c n) = omega arith
slow_marks m Blank = omega arith
slow_marks m (Mark b) = few (ltb (articulation b) 5) m.articulations
