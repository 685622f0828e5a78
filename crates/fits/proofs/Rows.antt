-- The rows: every spine's part and voice have room, and there are 256 at most.
use mathlib.Core.Path.{◌≡◌, refl}
use mathlib.Core.Bool.{Bool, true, false, cond}
use mathlib.Core.List.{List, [], ◌∷◌}
use mathlib.Core.Option.{Option, none, some}
use Prim.Native.Nat.{ℕ, suc, ◌+◌, ◌≤◌}
use native.Mathlib.Omega.{arith}
use lib.Dec.{leb}
use lib.ListN.{length}
use borrow.Author.Tests.{leb-true}
use Rattle.sheet.specs.Fits.{All, U8}
use Rattle.paths.specs.declared.PathToken.{PathToken}
use Rattle.paths.specs.declared.PathToken.TheVariants.{Split, Join, Exchange, End, Add, Other}
use Rattle.paths.specs.Token.{is_exchange, is_join}
use Rattle.paths.specs.Joins.{mixed_run}
use Rattle.paths.specs.Row.{branch_from, part_at, advance, next_row}
use Rattle.paths.specs.declared.Spine.{Spine}
use Rattle.paths.specs.declared.Spine.TheVariants.{Line, Branch, Outside}
use Rattle.paths.specs.Voices.{holds, lowest, with_voice, Outcome, next, mixed, voiceless, wide, ahead, settle, give_voices, voice_row, narrow, step_row}
use Rattle.paths.proofs.StepLaws.{unmixed_holds}
use Rattle.paths.specs.Text.{header_from}

abbrev pub SpineFits : Spine → Type 0
SpineFits (Line p v) = U8 p × U8 v
SpineFits (Branch p) = U8 p
SpineFits Outside = Unit {0}

-- ---- what a row's spines have, the next row's have

module _ {A : Type 0} (fork : A → A) (fresh : A) (P : A → Type 0) (forked : (a : A) → P a → P (fork a)) (anew : P fresh) where
  advanced : (ts : List PathToken) (row : List A) → All P row → All P (advance fork fresh ts row)
  unfolding advance
  advanced [] row h = tt
  advanced (t ∷ ts) [] h = tt
  advanced (Split ∷ ts) (a ∷ row) h = (h.0, (forked a h.0, advanced ts row h.1))
  advanced (Join ∷ []) (a ∷ row) h = (h.0, tt)
  advanced (Join ∷ t ∷ ts) (a ∷ []) h = (h.0, tt)
  advanced (Join ∷ t ∷ ts) (a ∷ b ∷ row) h =
      go (is_join t) (advanced (t ∷ ts) (a ∷ row) (h.0, h.1.1)) (advanced (t ∷ ts) (b ∷ row) h.1)
    where
      go : (j : Bool) → All P (advance fork fresh (t ∷ ts) (a ∷ row)) → All P (advance fork fresh (t ∷ ts) (b ∷ row))
          → All P (cond j (advance fork fresh (t ∷ ts) (a ∷ row)) (a ∷ advance fork fresh (t ∷ ts) (b ∷ row)))
      go true x y = x
      go false x y = (h.0, y)
  advanced (Exchange ∷ []) (a ∷ row) h = (h.0, tt)
  advanced (Exchange ∷ t ∷ ts) (a ∷ []) h = (h.0, tt)
  advanced (Exchange ∷ t ∷ ts) (a ∷ b ∷ row) h =
      go (is_exchange t) (advanced ts row h.1.1) (advanced (t ∷ ts) (b ∷ row) h.1)
    where
      go : (j : Bool) → All P (advance fork fresh ts row) → All P (advance fork fresh (t ∷ ts) (b ∷ row))
          → All P (cond j (b ∷ a ∷ advance fork fresh ts row) (a ∷ advance fork fresh (t ∷ ts) (b ∷ row)))
      go true x y = (h.1.0, (h.0, x))
      go false x y = (h.0, y)
  advanced (End ∷ ts) (a ∷ row) h = advanced ts row h.1
  advanced (Add ∷ ts) (a ∷ row) h = (h.0, (anew, advanced ts row h.1))
  advanced (Other ∷ ts) (a ∷ row) h = (h.0, advanced ts row h.1)

branch_fits : (s : Spine) → SpineFits s → SpineFits (branch_from s)
unfolding branch_from
branch_fits (Line p v) h = h.0
branch_fits (Branch p) h = h
branch_fits Outside h = tt

-- ---- voices

abbrev VoiceFits : Option ℕ → Type 0
VoiceFits none = Unit {0}
VoiceFits (some v) = U8 v

lowest_fits : (held : ℕ → Bool) → VoiceFits (lowest held)
unfolding lowest
lowest_fits held = go (held 0) (held 1) (held 2) (held 3)
  where
    go : (a b c d : Bool) → VoiceFits (cond a (cond b (cond c (cond d none (some 3)) (some 2)) (some 1)) (some 0))
    go false b c d = omega arith
    go true false c d = omega arith
    go true true false d = omega arith
    go true true true false = omega arith
    go true true true true = tt

abbrev RowFits : Outcome → Type 0
RowFits (next row) = All SpineFits row
RowFits (mixed c) = Unit {0}
RowFits (voiceless p) = Unit {0}
RowFits (wide n) = Unit {0}

ahead_fits : (s : Spine) (o : Outcome) → SpineFits s → RowFits o → RowFits (ahead s o)
ahead_fits s (next row) h k = (h, k)
ahead_fits s (mixed c) h k = tt
ahead_fits s (voiceless p) h k = tt
ahead_fits s (wide n) h k = tt

settle_fits : (p : ℕ) (rest : ℕ → Outcome) (v : Option ℕ) → U8 p → VoiceFits v → ((v : ℕ) → RowFits (rest v)) → RowFits (settle p rest v)
settle_fits p rest none h k r = tt
settle_fits p rest (some v) h k r = ahead_fits (Line p v) (rest v) (h, k) (r v)

voices_fit : (held : ℕ → ℕ → Bool) (row : List Spine) → All SpineFits row → RowFits (give_voices held row)
unfolding give_voices
voices_fit held [] h = tt
voices_fit held (Line p v ∷ row) h = ahead_fits (Line p v) (give_voices held row) h.0 (voices_fit held row h.1)
voices_fit held (Outside ∷ row) h = ahead_fits Outside (give_voices held row) tt (voices_fit held row h.1)
voices_fit held (Branch p ∷ row) h =
    settle_fits p (λ v. give_voices (with_voice p v held) row) (lowest (held p)) h.0 (lowest_fits (held p))
    (λ v. voices_fit (with_voice p v held) row h.1)

-- a row that has room: its spines, and their count
pub record Room (row : List Spine) : Type 0 where
  pub spines : All SpineFits row
  pub few : length row ≤ 256

abbrev pub NextFits : Outcome → Type 0
NextFits (next row) = Room row
NextFits (mixed c) = Unit {0}
NextFits (voiceless p) = Unit {0}
NextFits (wide n) = Unit {0}

narrow_fits : (o : Outcome) → RowFits o → NextFits (narrow o)
narrow_fits (next row) h = go (leb (length row) 256) refl
  where
    go : (t : Bool) → leb (length row) 256 ≡ t → NextFits (cond t (next row) (wide (length row)))
    go true e = record { spines = h; few = leb-true (length row) 256 e }
    go false e = tt
narrow_fits (mixed c) h = tt
narrow_fits (voiceless p) h = tt
narrow_fits (wide n) h = tt

pub step_fits : (row : List Spine) (ts : List PathToken) → All SpineFits row → NextFits (step_row row ts)
unfolding step_row voice_row
step_fits row ts h =
    unmixed_holds NextFits (mixed_run (part_at row) ts) (narrow (voice_row (next_row ts row))) (λ (c : ℕ). tt)
    (narrow_fits (give_voices (holds (next_row ts row)) (next_row ts row))
    (voices_fit (holds (next_row ts row)) (next_row ts row) (advanced branch_from Outside SpineFits branch_fits tt ts row h)))

-- ---- the header

pub header_fits : (p : ℕ) (ks : List Bool) → p + length ks ≤ 256 → All SpineFits (header_from p ks)
unfolding header_from
header_fits p [] h = tt
header_fits p (true ∷ ks) h = ((omega arith, omega arith), header_fits (suc p) ks (omega arith))
header_fits p (false ∷ ks) h = (tt, header_fits p ks (omega arith))
