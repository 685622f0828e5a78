-- The parts of the text, which are the first of an array.
use Rattle.std.proofs.Common.{◌≡◌, ℕ, ◌<◌, ◌≤◌, List, ◌++◌, length, get_or, take, drop, sym, ◌∙◌, length-take-le, take_at, arith}
use Rattle.std.proofs.lemmas.List.{get_or-take, get_or_default}
use Rattle.reading.specs.declared.Part.{Part}

-- one of them
pub part_in : (n p : ℕ) (d e : Part) (parts : List Part) → p < n → n ≤ length parts → get_or parts p d ≡ get_or (take n parts) p e
part_in n p d e parts lt few = get_or_default parts p d e (omega arith) ∙ sym (get_or-take n parts p e lt)

-- they were lent, and came back
pub lent_back : (n : ℕ) (q parts : List Part) → n ≤ length parts → length q ≡ length (take n parts) → take n (q ++ drop n parts) ≡ q
lent_back n q parts h l = take_at q (drop n parts) n (l ∙ length-take-le n parts h)
