-- The loop over the new row that gives its branches voices: what it keeps, and the turns.
use mathlib.Core.Path.{◌≡◌, refl, sym, ap, ap₂, ◌∙◌}
use Prim.Native.Nat.{ℕ, suc, ◌+◌, ◌-◌, ◌*◌, ◌/◌, ◌%◌, ◌≤◌, ◌<◌}
use native.Mathlib.Omega.{arith}
use native.Mathlib.Decide.{ℕ_discrete}
use native.Mathlib.Numerals.{add-one}
use mathlib.Core.List.{List, [], ◌∷◌, ◌++◌, append-nil, append_assoc}
use mathlib.Core.Bool.{Bool, true, false, ◌&&◌, ◌||◌}
use mathlib.Core.Option.{Option, none, some}
use lib.Dec.{eqb}
use lib.ListN.{length, get_or, take, drop, set, length-set, drop_of_length-le, take-append-drop}
use lib.Seq.{get_or-set_same, get_or-set_other, take_all, take-suc-set, drop-set-lt}
use Rattle.paths.proofs.LoopLaws.{or_swap}
use Rattle.paths.specs.declared.Spine.{Spine}
use Rattle.paths.specs.declared.Spine.TheVariants.{Line, Branch, Outside}
use Rattle.paths.specs.Voices.{holds, lowest, with_voice, Outcome, next, voiceless, ahead, settle, give_voices, voice_row}
use Rattle.paths.proofs.LoopLaws.{give_agrees, lowest_agrees, behind, behind_next, behind_voiceless, behind_snoc}
use Rattle.spines.specs.Cells.{spine_of, row_of, is_branch}
use Rattle.voices.specs.Mask.{bit, WithVoice, Account}
use Rattle.spines.proofs.CellLaws.{cell_line, branch_part, branch_spine, row_append, row_take, row_drop, row_none}
use Rattle.voices.proofs.MaskLaws.{lowest_low, account_parts, account_voice, account_by}

give_settled : (held : ℕ → ℕ → Bool) (s : Spine) (row : List Spine) → is_branch s ≡ false → give_voices held (s ∷ row) ≡ ahead s (give_voices held row)
unfolding give_voices
give_settled held (Line p v) row e = refl
give_settled held Outside row e = refl
give_settled held (Branch p) row e = cc

give_branch : (held : ℕ → ℕ → Bool) (p : ℕ) (row : List Spine) → give_voices held (Branch p ∷ row) ≡ settle p (λ v. give_voices (with_voice p v held) row) (lowest (held p))
unfolding give_voices
give_branch held p row = refl

-- a branch becomes a line
holds_put : (done row : List Spine) (p v q w : ℕ) → with_voice p v (holds (done ++ (Branch p ∷ row))) q w ≡ holds (done ++ (Line p v ∷ row)) q w
unfolding holds with_voice
holds_put [] row p v q w = refl
holds_put (Line a b ∷ done) row p v q w =
    or_swap (eqb q p && eqb w v) (eqb q a && eqb w b) (holds (done ++ (Branch p ∷ row)) q w) ∙ ap (λ (h : Bool). (eqb q a && eqb w b) || h) (holds_put done row p v q w)
holds_put (Branch a ∷ done) row p v q w = holds_put done row p v q w
holds_put (Outside ∷ done) row p v q w = holds_put done row p v q w

pub record Giving (cells₀ cells masks : List ℕ) (size i : ℕ) : Type 0 where
  pub high : i ≤ length cells
  pub kept : length cells ≡ length cells₀
  pub masked : length masks ≡ size
  pub account : Account cells masks (holds (row_of cells))
  pub same : voice_row (row_of cells₀) ≡ behind (row_of (take i cells)) (give_voices (holds (row_of cells)) (row_of (drop i cells)))

pub giving_first : {cells masks : List ℕ} → Account cells masks (holds (row_of cells)) → Giving cells cells masks (length masks) 0
unfolding voice_row row_of
giving_first a = record { high = omega arith; kept = refl; masked = refl; account = a; same = refl }

pub giving_past : {cells₀ cells masks : List ℕ} {size i : ℕ} → Giving cells₀ cells masks size i → length cells ≤ i → next (row_of cells) ≡ voice_row (row_of cells₀)
unfolding give_voices
giving_past {cells₀} {cells} {masks} {size} {i} inv h =
    let d : row_of (drop i cells) ≡ [] = ap row_of (drop_of_length-le cells h) ∙ row_none in
    let t : row_of (take i cells) ≡ row_of cells = ap row_of (take_all i cells h) in
    sym (inv.same ∙ ap₂ (λ (a b : List Spine). behind a (give_voices (holds (row_of cells)) b)) t d ∙ behind_next (row_of cells) [] ∙ ap next (append-nil (row_of cells)))

-- the cell at i and its part, the row to its left and to its right, and the rest of the row once its branch has the voice v
abbrev cell_at : List ℕ → ℕ → ℕ
cell_at cells i = get_or cells i 0

abbrev part_at : List ℕ → ℕ → ℕ
part_at cells i = get_or cells i 0 / 8 - 1

abbrev done_at : List ℕ → ℕ → List Spine
done_at cells i = row_of (take i cells)

abbrev rest_at : List ℕ → ℕ → List Spine
rest_at cells i = row_of (drop (i + 1) cells)

abbrev give_on : List ℕ → ℕ → ℕ → Outcome
give_on cells i v = give_voices (with_voice (part_at cells i) v (holds (row_of cells))) (rest_at cells i)

module _ {cells₀ cells masks : List ℕ} {size i : ℕ} (inv : Giving cells₀ cells masks size i) (h : i < length cells) where
  here : voice_row (row_of cells₀) ≡ behind (done_at cells i) (give_voices (holds (row_of cells)) (spine_of (cell_at cells i) ∷ rest_at cells i))
  here = inv.same ∙ ap (λ (r : List Spine). behind (done_at cells i) (give_voices (holds (row_of cells)) r)) (row_drop cells i h)

  pub giving_keep : is_branch (spine_of (cell_at cells i)) ≡ false → Giving cells₀ cells masks size (i + 1)
  giving_keep e = record {
    high = omega arith;
    kept = inv.kept;
    masked = inv.masked;
    account = inv.account;
    same = here ∙ ap (behind (done_at cells i)) (give_settled (holds (row_of cells)) (spine_of (cell_at cells i)) (rest_at cells i) e)
        ∙ behind_snoc (done_at cells i) (spine_of (cell_at cells i)) (give_voices (holds (row_of cells)) (rest_at cells i))
        ∙ ap (λ (d : List Spine). behind d (give_voices (holds (row_of cells)) (rest_at cells i))) (sym (row_take cells i h));
  }

  module _ (b : is_branch (spine_of (cell_at cells i)) ≡ true) where
    part : cell_at cells i / 8 ≡ suc (part_at cells i)
    part = omega (arith, branch_part (cell_at cells i) b)

    -- by what a search of the part's mask finds
    found : (m : ℕ) → m ≡ get_or masks (cell_at cells i / 8) 0 →
        voice_row (row_of cells₀) ≡ behind (done_at cells i) (settle (part_at cells i) (give_on cells i) (lowest (bit m)))
    found m e =
        here ∙ ap (behind (done_at cells i)) (
        ap (λ (s : Spine). give_voices (holds (row_of cells)) (s ∷ rest_at cells i)) (branch_spine (cell_at cells i) b)
        ∙ give_branch (holds (row_of cells)) (part_at cells i) (rest_at cells i)
        ∙ ap (settle (part_at cells i) (give_on cells i)) (
        lowest_agrees (holds (row_of cells) (part_at cells i)) (bit m) (λ v l.
        sym (ap (λ (x : ℕ). bit x v) (e ∙ ap (λ (k : ℕ). get_or masks k 0) part) ∙ inv.account.tells i (part_at cells i) v h part l)))
        )

    pub giving_none : {m : ℕ} → m ≡ get_or masks (cell_at cells i / 8) 0 → none ≡ lowest (bit m) →
        voiceless (part_at cells i) ≡ voice_row (row_of cells₀)
    giving_none {m} e f =
        sym (found m e ∙ ap (λ (o : Option ℕ). behind (done_at cells i) (settle (part_at cells i) (give_on cells i) o)) (sym f)
        ∙ behind_voiceless (done_at cells i) (part_at cells i))

    module _ {m v n : ℕ} (at : m ≡ get_or masks (cell_at cells i / 8) 0) (free : some v ≡ lowest (bit m)) (new : n ≡ cell_at cells i / 8 * 8 + v) where
      low : v < 4
      low = lowest_low (bit m) v free

      cell : spine_of n ≡ Line (part_at cells i) v
      cell =
          let q : n / 8 ≡ part_at cells i + 1 = omega (arith, low, part) in
          let r : n % 8 ≡ v = omega (arith, low) in
          let l : n % 8 < 4 = omega (arith, low) in
          cell_line n (part_at cells i) q l ∙ ap (Line (part_at cells i)) r

      before : row_of cells ≡ done_at cells i ++ (Branch (part_at cells i) ∷ rest_at cells i)
      before =
          ap row_of (sym (take-append-drop i cells)) ∙ row_append (take i cells) (drop i cells)
          ∙ ap (λ (r : List Spine). done_at cells i ++ r) (row_drop cells i h ∙ ap (λ (s : Spine). s ∷ rest_at cells i) (branch_spine (cell_at cells i) b))

      taken : row_of (take (i + 1) (set cells i n)) ≡ done_at cells i ++ (Line (part_at cells i) v ∷ [])
      unfolding row_of
      taken =
          ap row_of (ap (λ (k : ℕ). take k (set cells i n)) (add-one i) ∙ take-suc-set cells i n h) ∙ row_append (take i cells) (n ∷ [])
          ∙ ap (λ (s : Spine). done_at cells i ++ (s ∷ [])) cell

      dropped : drop (i + 1) (set cells i n) ≡ drop (i + 1) cells
      dropped = drop-set-lt (i + 1) cells i n (omega arith)

      afterwards : row_of (set cells i n) ≡ done_at cells i ++ (Line (part_at cells i) v ∷ rest_at cells i)
      afterwards =
          ap row_of (sym (take-append-drop (i + 1) (set cells i n))) ∙ row_append (take (i + 1) (set cells i n)) (drop (i + 1) (set cells i n))
          ∙ ap₂ (λ (x y : List Spine). x ++ y) taken (ap row_of dropped) ∙ append_assoc (done_at cells i) (Line (part_at cells i) v ∷ []) (rest_at cells i)

      holds_now : (q w : ℕ) → with_voice (part_at cells i) v (holds (row_of cells)) q w ≡ holds (row_of (set cells i n)) q w
      holds_now q w =
          ap (λ (r : List Spine). with_voice (part_at cells i) v (holds r) q w) before
          ∙ holds_put (done_at cells i) (rest_at cells i) (part_at cells i) v q w ∙ ap (λ (r : List Spine). holds r q w) (sym afterwards)

      parts : (j : ℕ) → get_or (set cells i n) j 0 / 8 ≡ get_or cells j 0 / 8
      parts j = go (ℕ_discrete j i)
        where
          q : n / 8 ≡ cell_at cells i / 8
          q = omega (arith, low)

          go : Dec (j ≡ i) → get_or (set cells i n) j 0 / 8 ≡ get_or cells j 0 / 8
          go (yes e) = rw (e, get_or-set_same cells i n 0 h) q
          go (no d) = rw (get_or-set_other cells i j n 0 d)

      pub giving_voice : {k m' : ℕ} → k ≡ cell_at cells i / 8 → k < size → WithVoice m v m' →
          Giving cells₀ (set cells i n) (set masks k m') size (i + 1)
      giving_voice {k} {m'} ke fits told = record {
        high = simp length-set (omega arith);
        kept = simp length-set inv.kept;
        masked = simp length-set inv.masked;
        account = rw (ke, part) (account_parts (account_by (account_voice (part_at cells i) inv.account (omega (arith, inv.masked, part)) told') holds_now) (simp length-set) parts);
        same = found m at ∙ ap (λ (o : Option ℕ). behind (done_at cells i) (settle (part_at cells i) (give_on cells i) o)) (sym free)
            ∙ behind_snoc (done_at cells i) (Line (part_at cells i) v) (give_on cells i v)
            ∙ ap₂ behind (sym taken) (give_agrees (with_voice (part_at cells i) v (holds (row_of cells))) (holds (row_of (set cells i n))) (rest_at cells i) (λ q w l. holds_now q w)
            ∙ ap (λ (r : List ℕ). give_voices (holds (row_of (set cells i n))) (row_of r)) (sym dropped));
      }
        where
          told' : WithVoice (get_or masks (suc (part_at cells i)) 0) v m'
          told' = rw (at ∙ ap (λ (j : ℕ). get_or masks j 0) part) at told
