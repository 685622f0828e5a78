-- The head.
use mathlib.Core.Path.{◌≡◌, refl}
use mathlib.Core.List.{List, ◌++◌}
use Prim.Native.Nat.{ℕ}
use lib.ListN.{length}
use Rattle.sheet.specs.Record.{head_bytes}
use Rattle.sheet.specs.Player.{head_of}
use Rattle.sheet.specs.Fits.{HeadFits}
use Rattle.sheet.specs.declared.Head.{Head}
use Rattle.sheet.proofs.BytesLaws.{back2, back4}

pub head_length : (h : Head) → length (head_bytes h) ≡ 16
unfolding head_bytes
head_length h = refl

pub head_back : {h : Head} → HeadFits h → (rest : List ℕ) → head_of (head_bytes h ++ rest) ≡ h
unfolding head_bytes head_of
head_back f rest = rw (back2 f.parts, back4 f.length, back4 f.notes)
