-- A row whose spines, branches too, are of one of n parts; its next row is one too.
use mathlib.Core.Path.{◌≡◌, refl, subst}
use Prim.Native.Nat.{ℕ, zero, suc, ◌+◌, ◌≤◌, ◌<◌}
use native.Mathlib.Omega.{arith}
use mathlib.Core.Bool.{Bool, true, false, cond}
use mathlib.Core.List.{List, [], ◌∷◌}
use mathlib.Core.Option.{Option, none, some}
use lib.Dec.{leb}
use lib.ListN.{length}
use borrow.Author.Tests.{leb-true}
use Rattle.paths.specs.declared.PathToken.{PathToken}
use Rattle.paths.specs.declared.PathToken.TheVariants.{Split, Join, Exchange, End, Add, Other}
use Rattle.paths.specs.Token.{is_exchange, is_join}
use Rattle.paths.specs.Joins.{mixed_run}
use Rattle.paths.specs.Row.{branch_from, part_at, advance, next_row}
use Rattle.paths.specs.declared.Spine.{Spine}
use Rattle.paths.specs.declared.Spine.TheVariants.{Line, Branch, Outside}
use Rattle.paths.specs.Text.{header_from}
use Rattle.paths.specs.Voices.{Outcome, next, mixed, voiceless, wide, ahead, settle, lowest, holds, with_voice, give_voices, voice_row, narrow, step_row}
use Rattle.paths.proofs.StepLaws.{unmixed_holds}
use Rattle.reading.specs.Header.{fresh_parts}
use Rattle.state.specs.Ready.{Within}
use Rattle.extent.proofs.StateLaws.{either}

abbrev pub InPart : ℕ → Spine → Type 0
InPart n (Line p v) = p < n
InPart n (Branch p) = p < n
InPart n Outside = Unit {0}

-- every spine of the row is of one of n parts, or outside kern
abbrev pub Inside : ℕ → List Spine → Type 0
Inside n [] = Unit {0}
Inside n (s ∷ row) = InPart n s × Inside n row

-- the row is short, and inside n parts
abbrev pub Firm : List Spine → ℕ → Type 0
Firm row n = (length row ≤ 256) × Inside n row

spine_in : (n : ℕ) (s : Spine) → InPart n s → (p v : ℕ) → s ≡ Line p v → p < n
spine_in n s h p v e = subst (λ (x : Spine). InPart n x) e h

pub inside_within : (n : ℕ) (row : List Spine) → Inside n row → Within row n
inside_within n [] h j p v e = spine_in n Outside tt p v e
inside_within n (s ∷ row) h zero p v e = spine_in n s h.0 p v e
inside_within n (s ∷ row) h (suc j) p v e = inside_within n row h.1 j p v e

-- ---- the header's row
pub header_in : (n p : ℕ) (ks : List Bool) → p + length (fresh_parts p ks) ≤ n → Inside n (header_from p ks)
unfolding header_from fresh_parts
header_in n p [] h = tt
header_in n p (true ∷ ks) h = (omega arith, header_in n (suc p) ks (omega arith))
header_in n p (false ∷ ks) h = (tt, header_in n p ks h)

-- ---- a star record's row
branch_in : (n : ℕ) (s : Spine) → InPart n s → InPart n (branch_from s)
unfolding branch_from
branch_in n (Line p v) h = h
branch_in n (Branch p) h = h
branch_in n Outside h = tt

next_in : (n : ℕ) (ts : List PathToken) (row : List Spine) → Inside n row → Inside n (next_row ts row)
unfolding advance
next_in n [] row h = tt
next_in n (t ∷ ts) [] h = tt
next_in n (Split ∷ ts) (s ∷ row) h = (h.0, (branch_in n s h.0, next_in n ts row h.1))
next_in n (Join ∷ []) (s ∷ row) h = (h.0, tt)
next_in n (Join ∷ t ∷ ts) (s ∷ []) h = (h.0, tt)
next_in n (Join ∷ t ∷ ts) (s ∷ r ∷ row) h =
    either (Inside n) (is_join t) (next_row (t ∷ ts) (s ∷ row)) (s ∷ next_row (t ∷ ts) (r ∷ row)) (next_in n (t ∷ ts) (s ∷ row) (h.0, h.1.1))
    (h.0, next_in n (t ∷ ts) (r ∷ row) h.1)
next_in n (Exchange ∷ []) (s ∷ row) h = (h.0, tt)
next_in n (Exchange ∷ t ∷ ts) (s ∷ []) h = (h.0, tt)
next_in n (Exchange ∷ t ∷ ts) (s ∷ r ∷ row) h =
    either (Inside n) (is_exchange t) (r ∷ s ∷ next_row ts row) (s ∷ next_row (t ∷ ts) (r ∷ row)) (h.1.0, (h.0, next_in n ts row h.1.1))
    (h.0, next_in n (t ∷ ts) (r ∷ row) h.1)
next_in n (End ∷ ts) (s ∷ row) h = next_in n ts row h.1
next_in n (Add ∷ ts) (s ∷ row) h = (h.0, (tt, next_in n ts row h.1))
next_in n (Other ∷ ts) (s ∷ row) h = (h.0, next_in n ts row h.1)

abbrev OutcomeIn : ℕ → Outcome → Type 0
OutcomeIn n (next row) = Inside n row
OutcomeIn n (mixed c) = Unit {0}
OutcomeIn n (voiceless p) = Unit {0}
OutcomeIn n (wide m) = Unit {0}

ahead_in : (n : ℕ) (s : Spine) (o : Outcome) → InPart n s → OutcomeIn n o → OutcomeIn n (ahead s o)
ahead_in n s (next row) h g = (h, g)
ahead_in n s (mixed c) h g = tt
ahead_in n s (voiceless p) h g = tt
ahead_in n s (wide m) h g = tt

settle_in : (n p : ℕ) (rest : ℕ → Outcome) (o : Option ℕ) → p < n → ((v : ℕ) → OutcomeIn n (rest v)) → OutcomeIn n (settle p rest o)
settle_in n p rest none h g = tt
settle_in n p rest (some v) h g = ahead_in n (Line p v) (rest v) h (g v)

give_in : (n : ℕ) (held : ℕ → ℕ → Bool) (row : List Spine) → Inside n row → OutcomeIn n (give_voices held row)
unfolding give_voices
give_in n held [] h = tt
give_in n held (Line p v ∷ row) h = ahead_in n (Line p v) (give_voices held row) h.0 (give_in n held row h.1)
give_in n held (Outside ∷ row) h = ahead_in n Outside (give_voices held row) tt (give_in n held row h.1)
give_in n held (Branch p ∷ row) h =
    settle_in n p (λ (v : ℕ). give_voices (with_voice p v held) row) (lowest (held p)) h.0 (λ (v : ℕ). give_in n (with_voice p v held) row h.1)

abbrev pub OutcomeFirm : ℕ → Outcome → Type 0
OutcomeFirm n (next row) = Firm row n
OutcomeFirm n (mixed c) = Unit {0}
OutcomeFirm n (voiceless p) = Unit {0}
OutcomeFirm n (wide m) = Unit {0}

-- "Are there at most 256 spines afterwards?"
narrow_firm : (n : ℕ) (o : Outcome) → OutcomeIn n o → OutcomeFirm n (narrow o)
narrow_firm n (next row) h = go (leb (length row) 256) refl
  where
    go : (t : Bool) → leb (length row) 256 ≡ t → OutcomeFirm n (cond t (next row) (wide (length row)))
    go true e = (leb-true (length row) 256 e, h)
    go false e = tt
narrow_firm n (mixed c) h = tt
narrow_firm n (voiceless p) h = tt
narrow_firm n (wide m) h = tt

pub step_firm : (n : ℕ) (row : List Spine) (ts : List PathToken) → Inside n row → OutcomeFirm n (step_row row ts)
unfolding step_row voice_row
step_firm n row ts h =
    unmixed_holds (OutcomeFirm n) (mixed_run (part_at row) ts) (narrow (voice_row (next_row ts row))) (λ (c : ℕ). tt)
    (narrow_firm n (voice_row (next_row ts row)) (give_in n (holds (next_row ts row)) (next_row ts row) (next_in n ts row h)))
