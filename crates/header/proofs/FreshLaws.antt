-- The parts of a header, of which nothing is known.
use Rattle.std.proofs.Common.{◌≡◌, ℕ, zero, suc, ◌+◌, ◌≤◌, ◌<◌, Bool, true, false, List, [], ◌∷◌, ◌++◌, length, get_or, take, drop, sym, ap, ◌∙◌, add-zero, zero-add, length-take-le, arith}
use lib.Seq.{ext_get_or}
use Rattle.reading.specs.State.{fresh_part}
use Rattle.reading.specs.declared.Part.{Part}
use Rattle.reading.specs.Header.{fresh_parts}
use Rattle.state.proofs.PartLaws.{lent_back}

fresh_at : (p : ℕ) (ks : List Bool) (k : ℕ) → k < length (fresh_parts p ks) → get_or (fresh_parts p ks) k (fresh_part 0) ≡ fresh_part (p + k)
unfolding fresh_parts
fresh_at p [] k h = absurd (omega arith)
fresh_at p (true ∷ ks) zero h = ap fresh_part (sym (add-zero p))
fresh_at p (true ∷ ks) (suc k) h = fresh_at (suc p) ks k (omega arith) ∙ ap fresh_part (omega arith)
fresh_at p (false ∷ ks) k h = fresh_at p ks k h

-- the first p parts are fresh
abbrev pub Freshened : List Part → ℕ → Type 0
Freshened parts p = (k : ℕ) → k < p → get_or parts k (fresh_part 0) ≡ fresh_part k

pub all_fresh : {parts : List Part} {p : ℕ} → Freshened parts p → length parts ≤ p → (ks : List Bool) → length parts ≡ length (fresh_parts 0 ks) → parts ≡ fresh_parts 0 ks
all_fresh {parts} h past ks e =
    ext_get_or (fresh_part 0) parts (fresh_parts 0 ks) e
    (λ k u. h k (omega arith) ∙ ap fresh_part (sym (zero-add k)) ∙ sym (fresh_at 0 ks k (omega (arith, e))))

-- the first m of an array were lent, and came back fresh
pub fresh_back : (m : ℕ) (q old : List Part) → m ≤ length old → length q ≡ length (take m old)
    → ((ks : List Bool) → length (take m old) ≡ length (fresh_parts 0 ks) → q ≡ fresh_parts 0 ks)
    → (ks : List Bool) → m ≡ length (fresh_parts 0 ks) → take m (q ++ drop m old) ≡ fresh_parts 0 ks
fresh_back m q old h l f ks e = lent_back m q old h l ∙ f ks (length-take-le m old h ∙ e)
