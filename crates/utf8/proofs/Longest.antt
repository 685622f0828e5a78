-- `utf8_length` measures the longest well-formed part of a text from its start.
use mathlib.Core.Path.{◌≡◌, refl, sym, ap, ◌∙◌}
use mathlib.Core.Bool.{cond}
use mathlib.Core.List.{List, ◌++◌, append_assoc}
use Prim.Native.Nat.{ℕ, zero, suc, ◌+◌, ◌≤◌}
use native.Mathlib.Nat.{zero-add}
use native.Mathlib.Omega.{arith}
use lib.Dec.{eqb, eqb-suc-zero}
use lib.ListN.{length, take, drop, length-append, take-append-drop}
use lib.Seq.{take-add, drop-append_seam, length-take-le}
use Rattle.utf8.specs.Utf8.{table, char_length, chars_length, utf8_length}
use Rattle.utf8.specs.WellFormed.{WellFormed, empty, character}
use Rattle.utf8.proofs.TableLaws.{Front, char_of, char_pos}
use Rattle.utf8.proofs.LengthLaws.{char_front, length_more}

part : (n : ℕ) (s : List ℕ) → WellFormed (take (chars_length n s) s)
unfolding chars_length
part zero s = empty
part (suc n) s = go (char_length s) refl (λ l. part n l)
  where
    go : (c : ℕ) → char_length s ≡ c → ((l : List ℕ) → WellFormed (take (chars_length n l) l))
        → WellFormed (take (cond (eqb c 0) 0 (c + chars_length n (drop c s))) s)
    go zero e more = empty
    go (suc c) e more =
        let f : Front table s (suc c) = char_front s (suc c) e (omega arith) in
        rw (eqb-suc-zero c, take-add (suc c) (chars_length n (drop (suc c) s)) s) (character f.listed f.spelled (more (drop (suc c) s)))

-- what is measured is well formed
pub well_formed : (s : List ℕ) → WellFormed (take (utf8_length s) s)
unfolding utf8_length
well_formed s = part (length s) s

-- a well-formed part is measured whole, whatever stands behind it
measured : {w : List ℕ} → WellFormed w → (t : List ℕ) → utf8_length (w ++ t) ≡ length w + utf8_length t
measured empty t = sym (zero-add (utf8_length t))
measured (character {c = c} {s = s} m row w) t =
    let n : length (c ++ s) ≡ length c + length s = length-append c s in
    let rest : drop (length c) (c ++ (s ++ t)) ≡ s ++ t = drop-append_seam c (s ++ t) in
    let one : utf8_length (c ++ (s ++ t)) ≡ length c + utf8_length (drop (length c) (c ++ (s ++ t))) =
    length_more (c ++ (s ++ t)) (length c) (char_of m row (s ++ t)) (char_pos m row) in
    rw append_assoc (one ∙ rw (rest, measured w t) (omega arith))

-- no longer part is
pub longest : (s : List ℕ) (k : ℕ) → k ≤ length s → WellFormed (take k s) → k ≤ utf8_length s
longest s k h w =
    let n : length (take k s) ≡ k = length-take-le k s h in
    let e : utf8_length s ≡ length (take k s) + utf8_length (drop k s) =
    ap utf8_length (sym (take-append-drop k s)) ∙ measured w (drop k s) in
    omega arith
