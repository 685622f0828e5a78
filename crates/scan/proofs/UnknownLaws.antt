-- Unknown marks: each is a signifier, and nothing else changes behind the first of them.
use mathlib.Core.Path.{◌≡◌, refl, sym, ap, ◌∙◌}
use Prim.Native.Nat.{ℕ, zero, suc, ◌+◌, ◌-◌, ◌≤◌, ◌<◌}
use native.Mathlib.Nat.{add-zero, zero-add}
use native.Mathlib.Omega.{arith}
use mathlib.Core.List.{List}
use mathlib.Core.Bool.{Bool, true, false, cond, not, ◌||◌, or-false, true≢false, false≢true}
use lib.Dec.{eqb}
use lib.ListN.{length, get_or}
use borrow.Author.Tests.{eqb-true, eqb-false, ne_eqb}
use Rattle.slices.specs.Ascii.{ascii}
use Rattle.notation.specs.Bytes.{contains}
use Rattle.pitch.specs.Pitch.{within}
use Rattle.items.specs.Items.{is_digit, is_letter, next_item}
use Rattle.items.specs.declared.Item.TheVariants.{Mark}
use Rattle.items.proofs.NextLaws.{next_mark}
use Rattle.token.specs.declared.scan.Before.{Before}
use Rattle.token.specs.declared.scan.Before.TheVariants.{Nothing, Right, Further, Ratio}
use Rattle.token.specs.Token.{passed, signs, known, passes, is_unknown, grace_by, articulation}
use Rattle.scan.specs.Steps.{Unknowns, dots_by, inside_first, step_lengths, step_first, step_sounds, step_marks, with_unknown}
use Rattle.scan.specs.declared.Lengths.{Lengths}
use Rattle.scan.specs.declared.First.{First}
use Rattle.scan.specs.declared.Sounds.{Sounds}
use Rattle.scan.specs.declared.Marks.{Marks}
use Rattle.scan.proofs.SoundLaws.{sounds}
use Rattle.scan.proofs.ScanLaws.{Scanning, scan_turn}

-- ---- their end
pub unknowns_to : {token : List ℕ} {from end : ℕ} → is_unknown (get_or token from 0) ≡ true → from + 1 ≤ end → end ≤ length token
    → ((j : ℕ) → from + 1 ≤ j → j < end → is_unknown (get_or token j 0) ≡ true) → Unknowns token from end
unknowns_to {token} {from} {end} first low high each =
    record { on = omega arith; high = high; unknown = λ j l u. go j l u (eqb j from) refl }
  where
    go : (j : ℕ) → from ≤ j → j < end → (t : Bool) → eqb j from ≡ t → is_unknown (get_or token j 0) ≡ true
    go j l u true q = rw (eqb-true j from q) first
    go j l u false q = let ne = eqb-false j from q in each j (omega arith) u

passed_twice : (b : Before) → passed (passed b) ≡ passed b
passed_twice Nothing = refl
passed_twice Right = refl
passed_twice Further = refl
passed_twice Ratio = refl

-- ---- what such a mark is not
none : (d l x s k : Bool) → not (d || l || x || s || k) ≡ true → (d ≡ false) × (l ≡ false) × (s ≡ false) × (k ≡ false)
none true l x s k h = absurd (false≢true h)
none false true x s k h = absurd (false≢true h)
none false false true s k h = absurd (false≢true h)
none false false false true k h = absurd (false≢true h)
none false false false false true h = absurd (false≢true h)
none false false false false false h = (refl, refl, refl, refl)

module _ (b : ℕ) (o : is_unknown b ≡ true) where
  other : (x : ℕ) → is_unknown x ≡ false → b ≡ x → ⊥
  other x n e = true≢false (sym o ∙ ap is_unknown e ∙ n)

  pub is_not : (x : ℕ) → is_unknown x ≡ false → eqb b x ≡ false
  is_not x n = ne_eqb b x (other x n)

  not_is : (x : ℕ) → is_unknown x ≡ false → eqb x b ≡ false
  not_is x n = ne_eqb x b (λ e. other x n (sym e))

  pub plain : (is_digit b ≡ false) × (is_letter b ≡ false) × (contains b signs ≡ false) × (contains b known ≡ false)
  unfolding is_unknown
  plain = none (is_digit b) (is_letter b) (contains b (ascii " %")) (contains b signs) (contains b known) o

  quiet_marks : (m : Marks) → step_marks m (Mark b) ≡ m
  unfolding contains grace_by articulation is_unknown is_letter within
  quiet_marks m = simp (not_is 91 refl, not_is 95 refl, not_is 93 refl, not_is 40 refl, not_is 41 refl, is_not 113 refl, is_not 81 refl, is_not 39 refl, is_not 94 refl, is_not 126 refl, is_not 59 refl, is_not 84 refl, is_not 116 refl, or-false, zero-add)

  unknown_sounds : (s : Sounds) → with_unknown s 1 ≡ step_sounds s (Mark b)
  unfolding passes
  unknown_sounds s = rw (plain.2, plain.3)

  quiet_lengths : (l : Lengths) {l' : Lengths} (a : ℕ) → l' ≡ step_lengths l (Mark a) → l' ≡ step_lengths l' (Mark b)
  unfolding contains is_unknown is_letter within
  quiet_lengths l a e = rw (e, is_not 37 refl, passed_twice l.before)

  settled : (f : First) (t : Bool) (d : ℕ) (r : Bool) → f.over ≡ t
      → cond t f (inside_first f.given d r) ≡ step_first (cond t f (inside_first f.given d r)) (Mark b)
  unfolding contains is_unknown is_letter within dots_by
  settled f true d r e = rw e
  settled f false d r e = rw (is_not 46 refl, is_not 114 refl, or-false r)

  quiet_first : (f : First) {f' : First} (a : ℕ) → f' ≡ step_first f (Mark a) → f' ≡ step_first f' (Mark b)
  quiet_first f a e = rw e (settled f f.over _ _ refl)

-- ---- the turn over all of them
module _ (token : List ℕ) where
  pub next_unknown : (i : ℕ) → i < length token → is_unknown (get_or token i 0) ≡ true → record { item = Mark (get_or token i 0); end = i + 1 } ≡ next_item token i
  unfolding contains is_unknown is_letter within
  next_unknown i h o =
      let p = plain (get_or token i 0) o in
      next_mark token i h refl p.0 refl p.1 (other (get_or token i 0) o 32 refl)

  run : {l : Lengths} {f : First} {m : Marks} {t : Bool} {p : ℕ} (n i g : ℕ) → Scanning token l f (sounds t p g) m i
      → ((b : ℕ) → is_unknown b ≡ true → l ≡ step_lengths l (Mark b)) → ((b : ℕ) → is_unknown b ≡ true → f ≡ step_first f (Mark b))
      → ((j : ℕ) → i ≤ j → j < i + n → is_unknown (get_or token j 0) ≡ true) → i + n ≤ length token → Scanning token l f (sounds t p (g + n)) m (i + n)
  run zero i g inv ql qf unknown h = rw (add-zero g, add-zero i) inv
  run {m = m} (suc n) i g inv ql qf unknown h =
      let o = unknown i (omega arith) (omega arith) in
      let b = get_or token i 0 in
      let e : g + suc n ≡ g + 1 + n = omega arith in
      let k : i + suc n ≡ i + 1 + n = omega arith in
      let turned = scan_turn inv (omega arith) (next_unknown i (omega arith) o) (ql b o) (qf b o) (unknown_sounds b o _) (sym (quiet_marks b o m)) in
      rw (e, k) (run n (i + 1) (g + 1) turned ql qf (λ j l u. unknown j (omega arith) (omega arith)) (omega arith))

  pub scan_run : {l l' : Lengths} {f f' : First} {s : Sounds} {m : Marks} {i end : ℕ} → Scanning token l f s m i → Unknowns token i end
      → l' ≡ step_lengths l (Mark (get_or token i 0)) → f' ≡ step_first f (Mark (get_or token i 0))
      → Scanning token l' f' (with_unknown s (end - i)) m end
  scan_run {l} {l'} {f} {f'} {s} {m} {i} {end} inv unknowns el ef =
      let b = get_or token i 0 in
      let o = unknowns.unknown i (omega arith) unknowns.on in
      let n = end - (i + 1) in
      let e : s.signifiers + 1 + n ≡ s.signifiers + (end - i) = omega (arith, unknowns.on) in
      let k : i + 1 + n ≡ end = omega (arith, unknowns.on) in
      let h : i < length token = omega (arith, unknowns.on, unknowns.high) in
      let turned = scan_turn inv h (next_unknown i h o) el ef (unknown_sounds b o s) (sym (quiet_marks b o m)) in
      rw (e, k) at (run n (i + 1) (s.signifiers + 1) turned (λ a q. quiet_lengths a q l b el) (λ a q. quiet_first a q f b ef)
      (λ j u v. unknowns.unknown j (omega arith) (omega (arith, unknowns.on))) (omega (arith, unknowns.on, unknowns.high)))
