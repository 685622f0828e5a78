-- Masks: a voice set by a shift, the lowest that is clear, and the masks of a row's parts.
use mathlib.Core.Path.{◌≡◌, refl, sym, ap, ◌∙◌}
use Prim.Native.Nat.{ℕ, zero, suc, ◌+◌, ◌*◌, ◌/◌, ◌%◌, ◌^◌, max, ◌≤◌, ◌<◌}
use native.Mathlib.Omega.{arith}
use native.Mathlib.Decide.{ℕ_discrete}
use mathlib.Core.List.{List, [], ◌∷◌, ◌++◌}
use mathlib.Core.Bool.{Bool, true, false, ◌&&◌, ◌||◌, cond}
use mathlib.Core.Option.{none, some}
use lib.Dec.{eqb, eqb→eq}
use lib.Bits.{bit_or, or_shr, or_step}
use lib.ListN.{length, get_or, take, set, length-set}
use lib.Seq.{get_or-set_same, get_or-set_other}
use borrow.Author.Tests.{eq-eqb, ne_eqb}
use Rattle.slices.specs.Finite.{all, below}
use Rattle.slices.proofs.TestLaws.{clash}
use Rattle.paths.specs.declared.Spine.{Spine}
use Rattle.paths.specs.declared.Spine.TheVariants.{Line, Branch, Outside}
use Rattle.paths.specs.Voices.{holds, lowest, with_voice}
use Rattle.paths.proofs.LoopLaws.{holds_line, holds_branch, holds_outside}
use Rattle.spines.specs.Cells.{spine_of, row_of}
use Rattle.std.proofs.Common as Std
use Rattle.std.proofs.Common.{Some, None, MatchOption}
use Rattle.voices.specs.Mask.{bit, voice_of, WithVoice, Cleared, Account}
use Rattle.spines.proofs.CellLaws.{of_line, row_take}

-- ---- one mask

-- `1 << v` at the bit w
shifted : ℕ → ℕ → Bool
shifted v w = eqb ((1 * 2 ^ v % 2 ^ 8) / 2 ^ w % 2) (cond (eqb w v) 1 0)

shifted_is : (v w : ℕ) → v < 4 → w < 4 → (1 * 2 ^ v % 2 ^ 8) / 2 ^ w % 2 ≡ cond (eqb w v) 1 0
unfolding shifted
shifted_is v w hv hw = eqb→eq _ _ (below (shifted v) 4 (below (λ v. all (shifted v) 4) 4 tt v hv) w hw)

or_bit : (q x : ℕ) (e : Bool) → x < 2 → eqb ((q * 2 + max x (cond e 1 0)) % 2) 1 ≡ (e || eqb x 1)
or_bit q zero true h = eq-eqb ((q * 2 + 1) % 2) 1 (omega arith)
or_bit q zero false h = ne_eqb ((q * 2 + 0) % 2) 1 (λ e. omega arith)
or_bit q (suc zero) true h = eq-eqb ((q * 2 + 1) % 2) 1 (omega arith)
or_bit q (suc zero) false h = eq-eqb ((q * 2 + 1) % 2) 1 (omega arith)
or_bit q (suc (suc x)) e h = absurd (omega arith)

or_is : (m v : ℕ) → v < 4 → (w : ℕ) → w < 4 → bit (bit_or m (1 * 2 ^ v % 2 ^ 8)) w ≡ (eqb w v || bit m w)
unfolding bit
or_is m v hv w hw =
    ap (λ (n : ℕ). eqb (n % 2) 1) (or_shr m (1 * 2 ^ v % 2 ^ 8) w ∙ or_step (m / 2 ^ w) ((1 * 2 ^ v % 2 ^ 8) / 2 ^ w))
    ∙ ap (λ (y : ℕ). eqb ((bit_or (m / 2 ^ w / 2) ((1 * 2 ^ v % 2 ^ 8) / 2 ^ w / 2) * 2 + max (m / 2 ^ w % 2) y) % 2) 1) (shifted_is v w hv hw)
    ∙ or_bit (bit_or (m / 2 ^ w / 2) ((1 * 2 ^ v % 2 ^ 8) / 2 ^ w / 2)) (m / 2 ^ w % 2) (eqb w v) (omega arith)

pub bit_or_lem : (m v : ℕ) → v < 4 → WithVoice m v (bit_or m (1 * 2 ^ v % 2 ^ 8))
bit_or_lem m v h = record { more = or_is m v h }

bit_clear : (v : ℕ) → v < 4 → bit 0 v ≡ false
unfolding bit
bit_clear zero h = refl
bit_clear (suc zero) h = refl
bit_clear (suc (suc zero)) h = refl
bit_clear (suc (suc (suc zero))) h = refl
bit_clear (suc (suc (suc (suc v)))) h = absurd (omega arith)

-- ---- the lowest that isn't held

module _ (held : ℕ → Bool) where
  pub lowest_at : (v : ℕ) → v < 4 → ((w : ℕ) → w < v → held w ≡ true) → held v ≡ false → some v ≡ lowest held
  unfolding lowest
  lowest_at zero h up here = rw here
  lowest_at (suc zero) h up here = rw (up 0 (omega arith), here)
  lowest_at (suc (suc zero)) h up here = rw (up 0 (omega arith), up 1 (omega arith), here)
  lowest_at (suc (suc (suc zero))) h up here = rw (up 0 (omega arith), up 1 (omega arith), up 2 (omega arith), here)
  lowest_at (suc (suc (suc (suc v)))) h up here = absurd (omega arith)

  pub lowest_none : ((w : ℕ) → w < 4 → held w ≡ true) → none ≡ lowest held
  unfolding lowest
  lowest_none up = rw (up 0 (omega arith), up 1 (omega arith), up 2 (omega arith), up 3 (omega arith))

  -- what a search of the four finds
  pub lowest_found : (r : Std.Option ℕ)
      → MatchOption r ((w : ℕ) → 0 ≤ w → w < 4 → held w ≡ true) (λ v. (0 ≤ v) × (v < 4) × (held v ≡ false) × ((w : ℕ) → 0 ≤ w → w < v → held w ≡ true))
      → voice_of r ≡ lowest held
  lowest_found None h = lowest_none (λ w l. h w (omega arith) l)
  lowest_found (Some v) h = lowest_at v h.1 (λ w l. h.3 w (omega arith) l) h.2

  pub lowest_low : (v : ℕ) → some v ≡ lowest held → v < 4
  unfolding lowest
  lowest_low v e = go (held 0) (held 1) (held 2) (held 3) e
    where
      is : (k : ℕ) → k < 4 → some v ≡ some k → v < 4
      is k h q = let r : v ≡ k = cc in omega arith

      go : (a b c d : Bool) → some v ≡ cond a (cond b (cond c (cond d none (some 3)) (some 2)) (some 1)) (some 0) → v < 4
      go true true true true q = clash cc
      go true true true false q = is 3 (omega arith) q
      go true true false d q = is 2 (omega arith) q
      go true false c d q = is 1 (omega arith) q
      go false b c d q = is 0 (omega arith) q

-- ---- the masks of a row's parts, cleared

pub record Clearing (cells masks : List ℕ) (size i : ℕ) : Type 0 where
  pub high : i ≤ length cells
  pub kept : length masks ≡ size
  pub clear : (j : ℕ) → j < i → get_or masks (get_or cells j 0 / 8) 0 ≡ 0

-- ---- and filled in

pub account_by : {cells masks : List ℕ} {held held' : ℕ → ℕ → Bool} → Account cells masks held → ((p v : ℕ) → held p v ≡ held' p v) → Account cells masks held'
account_by a e = record { tells = λ j p v l q h. a.tells j p v l q h ∙ e p v }

pub account_parts : {cells cells' masks : List ℕ} {held : ℕ → ℕ → Bool} → Account cells masks held → length cells' ≡ length cells →
    ((j : ℕ) → get_or cells' j 0 / 8 ≡ get_or cells j 0 / 8) → Account cells' masks held
account_parts a l e = record { tells = λ j p v h q k. a.tells j p v (omega arith) (sym (e j) ∙ q) k }

-- part p holds the voice v as well
pub account_voice : {cells masks : List ℕ} {held : ℕ → ℕ → Bool} (p : ℕ) {v m : ℕ} → Account cells masks held → suc p < length masks →
    WithVoice (get_or masks (suc p) 0) v m → Account cells (set masks (suc p) m) (with_voice p v held)
unfolding with_voice
account_voice {cells} {masks} {held} p {v} {m} a fits told = record { tells = λ j q w l e h. go j q w l e h (ℕ_discrete q p) }
  where
    go : (j q w : ℕ) → j < length cells → get_or cells j 0 / 8 ≡ suc q → w < 4 → Dec (q ≡ p) →
        bit (get_or (set masks (suc p) m) (suc q) 0) w ≡ ((eqb q p && eqb w v) || held q w)
    go j q w l e h (yes same) =
        rw (same, get_or-set_same masks (suc p) m 0 fits, eq-eqb p p refl) (told.more w h ∙ ap (λ (x : Bool). eqb w v || x) (a.tells j p w l (e ∙ ap suc same) h))
    go j q w l e h (no other) =
        rw (get_or-set_other masks (suc p) (suc q) m 0 (λ z. other (omega arith)), ne_eqb q p other) (a.tells j q w l e h)

pub record Marking (cells masks : List ℕ) (size i : ℕ) : Type 0 where
  pub high : i ≤ length cells
  pub kept : length masks ≡ size
  pub account : Account cells masks (holds (row_of (take i cells)))

pub marking_first : {cells masks : List ℕ} → Cleared cells masks → Marking cells masks (length masks) 0
unfolding holds row_of
marking_first {cells} {masks} c = record {
  high = omega arith;
  kept = refl;
  account = record { tells = λ j p v l e h. ap (λ (x : ℕ). bit x v) (ap (λ (k : ℕ). get_or masks k 0) (sym e) ∙ c.clear j l) ∙ bit_clear v h };
}

module _ {cells masks : List ℕ} {size i : ℕ} (inv : Marking cells masks size i) (h : i < length cells) where
  more : (s : Spine) → spine_of (get_or cells i 0) ≡ s → (p v : ℕ) → holds (row_of (take i cells) ++ (s ∷ [])) p v ≡ holds (row_of (take (i + 1) cells)) p v
  more s e p v = ap (λ (r : List Spine). holds r p v) (sym (row_take cells i h ∙ ap (λ (x : Spine). row_of (take i cells) ++ (x ∷ [])) e))

  -- a branch, or a spine outside kern
  pub marking_pass : ((p v : ℕ) → spine_of (get_or cells i 0) ≡ Line p v → ⊥) → Marking cells masks size (i + 1)
  marking_pass n = record { high = omega arith; kept = inv.kept; account = account_by inv.account (go (spine_of (get_or cells i 0)) refl) }
    where
      go : (s : Spine) → spine_of (get_or cells i 0) ≡ s → (p w : ℕ) → holds (row_of (take i cells)) p w ≡ holds (row_of (take (i + 1) cells)) p w
      go Outside e p w = sym (holds_outside (row_of (take i cells)) p w) ∙ more Outside e p w
      go (Branch r) e p w = sym (holds_branch (row_of (take i cells)) r p w) ∙ more (Branch r) e p w
      go (Line r v) e p w = absurd (n r v e)

  pub marking_line : {r q v m : ℕ} → spine_of (get_or cells i 0) ≡ Line r v → q ≡ get_or cells i 0 / 8 → q < size →
      WithVoice (get_or masks q 0) v m → Marking cells (set masks q m) size (i + 1)
  marking_line {r} {q} {v} {m} is e fits told =
      let at : q ≡ suc r = omega (arith, (of_line (get_or cells i 0) is).part) in
      record {
        high = omega arith;
        kept = simp length-set inv.kept;
        account = rw at (account_by (account_voice r inv.account (omega (arith, at, inv.kept)) (rw at at told)) (λ p w. sym (holds_line (row_of (take i cells)) r v p w) ∙ more (Line r v) is p w));
      }
