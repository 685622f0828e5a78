-- The loops that read a run of bytes of a line: what they keep, the turn that keeps it, and runs side by side.
use mathlib.Core.Path.{◌≡◌, refl, sym, ap, ◌∙◌}
use Prim.Native.Nat.{ℕ, suc, ◌+◌, ◌-◌, ◌≤◌, ◌<◌}
use native.Mathlib.Omega.{arith}
use mathlib.Core.List.{List, [], ◌∷◌, ◌++◌}
use mathlib.Core.Bool.{Bool, true, ◌&&◌, and_assoc}
use lib.ListN.{length, take, drop, get_or, length-drop}
use lib.Seq.{take-suc, take-add, get_or-drop, drop-drop, length-take-le}
use Rattle.slices.specs.Split.{piece_at}
use Rattle.notation.specs.Bytes.{contains}
use Rattle.plain.specs.Usual.{all_in, carried, Run, Carried}

pub all_in_append : (word xs ys : List ℕ) → all_in word (xs ++ ys) ≡ (all_in word xs && all_in word ys)
unfolding all_in
all_in_append word [] ys = refl
all_in_append word (x ∷ xs) ys =
    ap (λ (t : Bool). contains x word && t) (all_in_append word xs ys) ∙ sym (and_assoc (contains x word) (all_in word xs) (all_in word ys))

pub all_in_join : (word xs ys : List ℕ) → all_in word xs ≡ true → all_in word ys ≡ true → all_in word (xs ++ ys) ≡ true
all_in_join word xs ys p q = all_in_append word xs ys ∙ rw (p, q)

pub carried_append : {S : Type 0} (step : S → ℕ → S) (s : S) (xs ys : List ℕ)
    → carried step s (xs ++ ys) ≡ carried step (carried step s xs) ys
unfolding carried
carried_append step s [] ys = refl
carried_append step s (x ∷ xs) ys = carried_append step (step s x) xs ys

-- ---- pieces of a line
pub piece_none : (line : List ℕ) (from : ℕ) → piece_at line from (from - from) ≡ []
piece_none line from =
    let z : from - from ≡ 0 = omega arith in
    rw z

pub piece_join : (line : List ℕ) (from a e : ℕ) → from ≤ a → a ≤ e
    → piece_at line from (e - from) ≡ piece_at line from (a - from) ++ piece_at line a (e - a)
piece_join line from a e p q =
    let n : e - from ≡ a - from + (e - a) = omega arith in
    let k : from + (a - from) ≡ a = omega arith in
    ap (λ (m : ℕ). take m (drop from line)) n
    ∙ take-add (a - from) (e - a) (drop from line)
    ∙ ap (λ (l : List ℕ). take (a - from) (drop from line) ++ take (e - a) l) (drop-drop (a - from) from line ∙ ap (λ (m : ℕ). drop m line) k)

pub piece_more : (line : List ℕ) (from i : ℕ) → from ≤ i → i < length line
    → piece_at line from (i + 1 - from) ≡ piece_at line from (i - from) ++ (get_or line i 0 ∷ [])
piece_more line from i p q =
    let n : i + 1 - from ≡ suc (i - from) = omega arith in
    let k : from + (i - from) ≡ i = omega arith in
    let h : i - from < length (drop from line) = omega (arith, length-drop from line) in
    ap (λ (m : ℕ). take m (drop from line)) n
    ∙ take-suc (drop from line) (i - from) 0 h
    ∙ ap (λ (x : ℕ). take (i - from) (drop from line) ++ (x ∷ [])) (get_or-drop from line (i - from) 0 ∙ ap (λ (m : ℕ). get_or line m 0) k)

pub piece_length : (line : List ℕ) (from e : ℕ) → from ≤ e → e ≤ length line → length (piece_at line from (e - from)) ≡ e - from
piece_length line from e p q = length-take-le (e - from) (drop from line) (omega (arith, length-drop from line))

-- ---- a run
pub run_first : {word line : List ℕ} {from : ℕ} → from ≤ length line → Run word line from from
unfolding all_in
run_first {word} {line} {from} h = record { low = omega arith; high = h; inside = rw (piece_none line from) }

pub run_turn : {word line : List ℕ} {from i : ℕ} → Run word line from i → i < length line → contains (get_or line i 0) word ≡ true
    → Run word line from (i + 1)
unfolding all_in
run_turn {word} {line} {from} {i} r h e =
    record {
      low = omega (arith, r.low);
      high = omega arith;
      inside = rw (piece_more line from i r.low h) (all_in_join word (piece_at line from (i - from)) (get_or line i 0 ∷ []) r.inside (rw e));
    }

-- ---- a state carried over a run
pub carried_first : {S : Type 0} {step : S → ℕ → S} {word line : List ℕ} {from : ℕ} {s : S} → from ≤ length line
    → Carried S step word line from s s from
unfolding carried
carried_first {S} {step} {word} {line} {from} {s} h = record { run = run_first h; same = rw (piece_none line from) }

pub carried_turn : {S : Type 0} {step : S → ℕ → S} {word line : List ℕ} {from i : ℕ} {fresh s t : S} → Carried S step word line from fresh s i
    → i < length line → contains (get_or line i 0) word ≡ true → t ≡ step s (get_or line i 0)
    → Carried S step word line from fresh t (i + 1)
unfolding carried
carried_turn {S} {step} {word} {line} {from} {i} {fresh} {s} {t} r h e q =
    record {
      run = run_turn r.run h e;
      same =
          ap (carried step fresh) (piece_more line from i r.run.low h)
          ∙ carried_append step fresh (piece_at line from (i - from)) (get_or line i 0 ∷ [])
          ∙ ap (λ (u : S). step u (get_or line i 0)) r.same
          ∙ sym q;
    }
