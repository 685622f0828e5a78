-- Records that are laid in a buffer one after another; what is laid where all fits.
use Rattle.std.proofs.Common.{◌≡◌, ℕ, ◌+◌, ◌-◌, ◌^◌, ◌<◌, ◌≤◌, min, Bool, true, false, cond, leb, List, [], ◌∷◌, ◌++◌, length, take, drop, sym, refl, ap, ◌∙◌, ap₂, append_assoc, append-nil, add-zero, mod-eq_of_lt, arith, length-append, length-drop, take-append-drop, drop_of_length-le, length-take-le, take_all, drop-drop, take_at, drop_at, le-leb, leb-false, leb-true}
use Rattle.slices.specs.Store.{stored}
use Rattle.sheet.specs.Record.{Record, record_bytes, records_bytes}
use Rattle.state.specs.Lay.{past, stored_at, laid, behind}

pub laid_append : (rs ss : List Record) (out : List ℕ) (at : ℕ) → laid out at (rs ++ ss) ≡ laid (laid out at rs) (behind at rs) ss
unfolding laid behind
laid_append [] ss out at = refl
laid_append (r ∷ rs) ss out at = laid_append rs ss (stored_at out at (record_bytes r)) (past at (length (record_bytes r)))

pub behind_append : (rs ss : List Record) (at : ℕ) → behind at (rs ++ ss) ≡ behind (behind at rs) ss
unfolding behind
behind_append [] ss at = refl
behind_append (r ∷ rs) ss at = behind_append rs ss (past at (length (record_bytes r)))

-- one record
pub laid_one : (r : Record) (out : List ℕ) (at : ℕ) → laid out at (r ∷ []) ≡ stored_at out at (record_bytes r)
unfolding laid
laid_one r out at = refl

pub behind_one : (r : Record) (at : ℕ) → behind at (r ∷ []) ≡ past at (length (record_bytes r))
unfolding behind
behind_one r at = refl

pub past_small : (at n : ℕ) → at + n < 2 ^ 64 → past at n ≡ at + n
unfolding past
past_small at n h = mod-eq_of_lt h

-- the place behind records whose bytes fit a usize
pub behind_small : (rs : List Record) (at : ℕ) → at + length (records_bytes rs) < 2 ^ 64 → behind at rs ≡ at + length (records_bytes rs)
unfolding behind records_bytes
behind_small [] at h = sym (add-zero at)
behind_small (r ∷ rs) at h =
    let n : length (record_bytes r ++ records_bytes rs) ≡ length (record_bytes r) + length (records_bytes rs) = length-append (record_bytes r) (records_bytes rs) in
    let s : past at (length (record_bytes r)) ≡ at + length (record_bytes r) = past_small at (length (record_bytes r)) (omega arith) in
    ap (λ (k : ℕ). behind k rs) s
    ∙ behind_small rs (at + length (record_bytes r)) (omega arith)
    ∙ omega arith

-- a buffer keeps its length
pub stored_length : (old bytes : List ℕ) → length (stored old bytes) ≡ length old
unfolding stored
stored_length old bytes = go (leb (length bytes) (length old)) refl
  where
    go : (t : Bool) → leb (length bytes) (length old) ≡ t → length (cond t (bytes ++ drop (length bytes) old) old) ≡ length old
    go true e =
        length-append bytes (drop (length bytes) old)
        ∙ omega (arith, length-drop (length bytes) old, leb-true (length bytes) (length old) e)
    go false e = refl

length_around : (out : List ℕ) (at : ℕ) → length (take at out) + length (drop at out) ≡ length out
length_around out at = sym (length-append (take at out) (drop at out)) ∙ ap length (take-append-drop at out)

pub stored_at_length : (out : List ℕ) (at : ℕ) (bytes : List ℕ) → length (stored_at out at bytes) ≡ length out
unfolding stored_at
stored_at_length out at bytes =
    length-append (take at out) (stored (drop at out) bytes)
    ∙ omega (arith, stored_length (drop at out) bytes, length_around out at)

pub laid_length : (rs : List Record) (out : List ℕ) (at : ℕ) → length (laid out at rs) ≡ length out
unfolding laid
laid_length [] out at = refl
laid_length (r ∷ rs) out at =
    laid_length rs (stored_at out at (record_bytes r)) (past at (length (record_bytes r))) ∙ stored_at_length out at (record_bytes r)

-- a place past the end of the buffer is as good as the end
pub stored_at_clip : (out : List ℕ) (at : ℕ) (bytes : List ℕ) → stored_at out (min at (length out)) bytes ≡ stored_at out at bytes
unfolding stored_at
stored_at_clip out at bytes = go (leb at (length out)) refl
  where
    go : (t : Bool) → leb at (length out) ≡ t
        → take (min at (length out)) out ++ stored (drop (min at (length out)) out) bytes ≡ take at out ++ stored (drop at out) bytes
    go true e =
        let h : at ≤ length out = leb-true at (length out) e in
        let m : min at (length out) ≡ at = omega arith in
        ap (λ (k : ℕ). take k out ++ stored (drop k out) bytes) m
    go false e =
        let h : length out < at = leb-false at (length out) e in
        let m : min at (length out) ≡ length out = omega arith in
        let d : drop (length out) out ≡ [] = drop_of_length-le out {i = length out} (omega arith) in
        let f : drop at out ≡ [] = drop_of_length-le out {i = at} (omega arith) in
        ap (λ (k : ℕ). take k out ++ stored (drop k out) bytes) m
        ∙ ap₂ (λ (a b : List ℕ). a ++ stored b bytes) (take_all (length out) out (omega arith) ∙ sym (take_all at out (omega arith))) (d ∙ sym f)

-- the end of a buffer from a place k on, k at most its length, is lent, and comes back with bytes stored at its start
pub stored_back : (bytes xs ys : List ℕ) (at k : ℕ) → k ≡ min at (length xs) → ys ≡ stored (take (length xs - k) (drop k xs)) bytes
    → take k xs ++ (ys ++ drop (length xs - k) (drop k xs)) ≡ stored_at xs at bytes
unfolding stored_at
stored_back bytes xs ys at k m e =
    let n : length (drop k xs) ≡ length xs - k = length-drop k xs in
    let whole : take (length xs - k) (drop k xs) ≡ drop k xs = take_all (length xs - k) (drop k xs) (omega arith) in
    let none : drop (length xs - k) (drop k xs) ≡ [] = drop_of_length-le (drop k xs) {i = length xs - k} (omega arith) in
    ap₂ (λ (a b : List ℕ). take k xs ++ (a ++ b)) (e ∙ ap (λ (l : List ℕ). stored l bytes) whole) none
    ∙ ap (λ (l : List ℕ). take k xs ++ l) (append-nil (stored (drop k xs) bytes))
    ∙ ap (λ (j : ℕ). stored_at xs j bytes) m
    ∙ stored_at_clip xs at bytes

-- bytes that fit stand between what was before the place and what is behind
stored_at_fits : (out : List ℕ) (at : ℕ) (bytes : List ℕ) → at + length bytes ≤ length out
    → stored_at out at bytes ≡ take at out ++ (bytes ++ drop (at + length bytes) out)
unfolding stored_at stored
stored_at_fits out at bytes h =
    let d : length (drop at out) ≡ length out - at = length-drop at out in
    let f : leb (length bytes) (length (drop at out)) ≡ true = le-leb (length bytes) (length (drop at out)) (omega arith) in
    ap (λ (t : Bool). take at out ++ cond t (bytes ++ drop (length bytes) (drop at out)) (drop at out)) f
    ∙ ap (λ (l : List ℕ). take at out ++ (bytes ++ l)) (drop-drop (length bytes) at out)

-- where all fits, the records' bytes stand between what was before the place and what is behind
pub laid_fits : (rs : List Record) (out : List ℕ) (at : ℕ) → at + length (records_bytes rs) ≤ length out → at + length (records_bytes rs) < 2 ^ 64
    → laid out at rs ≡ take at out ++ (records_bytes rs ++ drop (at + length (records_bytes rs)) out)
unfolding laid records_bytes
laid_fits [] out at h w = sym (ap (λ (k : ℕ). take at out ++ drop k out) (add-zero at) ∙ take-append-drop at out)
laid_fits (r ∷ rs) out at h few =
    let b = record_bytes r in
    let n : length (b ++ records_bytes rs) ≡ length b + length (records_bytes rs) = length-append b (records_bytes rs) in
    let t : length (take at out) ≡ at = length-take-le at out (omega arith) in
    let k : past at (length b) ≡ at + length b = past_small at (length b) (omega arith) in
    let l : length (stored_at out at b) ≡ length out = stored_at_length out at b in
    let tail = drop (at + length b) out in
    let w : at + length b + length (records_bytes rs) ≡ at + length (b ++ records_bytes rs) = omega arith in
    let f : stored_at out at b ≡ (take at out ++ b) ++ tail
    = stored_at_fits out at b (omega arith) ∙ sym (append_assoc (take at out) b tail) in
    let m : length (take at out ++ b) ≡ at + length b = length-append (take at out) b ∙ ap (λ (j : ℕ). j + length b) t in
    ap (λ (j : ℕ). laid (stored_at out at b) j rs) k
    ∙ laid_fits rs (stored_at out at b) (at + length b) (omega arith) (omega arith)
    ∙ ap₂ (λ (x y : List ℕ). x ++ (records_bytes rs ++ y))
    (ap (take (at + length b)) f ∙ take_at (take at out ++ b) tail (at + length b) m)
    (ap (drop (at + length b + length (records_bytes rs))) f
    ∙ sym (drop-drop (length (records_bytes rs)) (at + length b) ((take at out ++ b) ++ tail))
    ∙ ap (drop (length (records_bytes rs))) (drop_at (take at out ++ b) tail (at + length b) m)
    ∙ drop-drop (length (records_bytes rs)) (at + length b) out
    ∙ ap (λ (j : ℕ). drop j out) w)
    ∙ append_assoc (take at out) b (records_bytes rs ++ drop (at + length (b ++ records_bytes rs)) out)
    ∙ ap (λ (y : List ℕ). take at out ++ y) (sym (append_assoc b (records_bytes rs) (drop (at + length (b ++ records_bytes rs)) out)))
