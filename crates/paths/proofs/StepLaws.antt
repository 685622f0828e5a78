-- What one record comes to, from a row whose voices are given.
use mathlib.Core.Path.{◌≡◌, refl, sym, ap, ◌∙◌, subst}
use mathlib.Core.Bool.{Bool, true, false, cond}
use mathlib.Core.List.{List, [], ◌∷◌}
use mathlib.Core.Option.{Option, none, some, bind}
use mathlib.Core.Logic.{◌≢◌, ◌⊎◌, inl, inr}
use Prim.Native.Nat.{ℕ, ◌+◌, ◌≤◌, ◌<◌}
use native.Mathlib.Omega.{arith}
use lib.Dec.{eqb, leb}
use lib.ListN.{length, get_or, length-map, get_or-map}
use borrow.Author.Tests.{eqb-true, eqb-false, leb-true, leb-false}
use Rattle.paths.specs.declared.PathToken.{PathToken}
use Rattle.paths.specs.Record.{Rec, star, plain, tokens}
use Rattle.paths.specs.Row.{branch_from, next_row, part_of, spine_at, part_at}
use Rattle.paths.specs.declared.Spine.{Spine}
use Rattle.paths.specs.declared.Spine.TheVariants.{Line, Branch, Outside}
use Rattle.paths.specs.Joins.{mixed_run}
use Rattle.paths.specs.Voices.{holds, Outcome, next, mixed, voiceless, wide, give_voices, voice_row, narrow, unmixed, step_row}
use Rattle.paths.specs.Trace.{Origin, from, branch_of, nowhere, origin, origin_in, column_of, width, width_in}
use Rattle.paths.specs.Text.{Reading, reached, ended, refused, reading, read_record, take_record}
use Rattle.paths.specs.Walk.{alone}
use Rattle.paths.proofs.Counts.{total, at, of_part, part_total, total_four, holds_total}
use Rattle.paths.proofs.Shrink.{at_shrinks, high_shrinks}
use Rattle.paths.proofs.Origins.{origins, pick, next_origins}
use Rattle.paths.proofs.TraceLaws.{origins_at, origins_length}
use Rattle.paths.proofs.VoiceLaws.{Voiced, Lacks, GiveIs, give_is, Fair, Sound, Settles, settles, Kept, voiced_at, voiced_length, kept_part}

-- ---- the next row, voices aside

pub next_at : (ts : List PathToken) (row : List Spine) → length ts ≡ length row → (j : ℕ) → spine_at (next_row ts row) j ≡ pick row (origin ts j)
next_at ts row e j = ap (λ (l : List Spine). get_or l j Outside) (next_origins ts row e) ∙ get_or-map (pick row) (origins alone 0 ts) j nowhere
    ∙ ap (pick row) (origins_at ts j)

pub next_length : (ts : List PathToken) (row : List Spine) → length ts ≡ length row → length (next_row ts row) ≡ width ts
next_length ts row e = ap length (next_origins ts row e) ∙ length-map (origins alone 0 ts) (pick row) ∙ origins_length ts

pub branch_part : (s : Spine) → part_of (branch_from s) ≡ part_of s
unfolding branch_from
branch_part (Line p v) = refl
branch_part (Branch p) = refl
branch_part Outside = refl

pick_part : (row : List Spine) (o : Origin) → part_of (pick row o) ≡ bind (column_of o) (part_at row)
unfolding bind part_at
pick_part row (from i) = refl
pick_part row (branch_of i) = branch_part (spine_at row i)
pick_part row nowhere = refl

pub next_part : (ts : List PathToken) (row : List Spine) → length ts ≡ length row → (j : ℕ) → part_at (next_row ts row) j ≡ bind (column_of (origin ts j)) (part_at row)
unfolding part_at
next_part ts row e j = ap part_of (next_at ts row e j) ∙ pick_part row (origin ts j)

-- ---- with its voices

pub next_fair : (ts : List PathToken) (row : List Spine) → Sound row → Fair (holds (next_row ts row)) (λ p v. 0) (next_row ts row)
next_fair ts row s = record {
  tells = λ p v. holds_total (next_row ts row) p v ∙ ap (leb 1) (zero_left (total (at p v) (next_row ts row)));
  once = λ p v. omega (arith, at_shrinks ts row p v, s.once p v);
  low = omega (arith, high_shrinks ts row, s.low);
}
  where
    zero_left : (n : ℕ) → n ≡ 0 + n
    zero_left n = omega arith

-- r is the next row with its voices
abbrev pub Gives : List PathToken → List Spine → List Spine → Type 0
Gives ts row r = Voiced (holds (next_row ts row)) (next_row ts row) r

-- what holds of question 17 and of what comes after it holds of a star record
pub unmixed_holds : (P : Outcome → Type 0) (m : Option ℕ) (o : Outcome) → ((c : ℕ) → P (mixed c)) → P o → P (unmixed m o)
unmixed_holds P none o refuses later = later
unmixed_holds P (some c) o refuses later = refuses (c + 1)

abbrev pub StepIs : List PathToken → List Spine → Outcome → Type 0
StepIs ts row (next r) = Gives ts row r × (length r ≤ 256)
StepIs ts row (mixed f) = (c : ℕ) × (mixed_run (part_at row) ts ≡ some c) × (f ≡ c + 1)
StepIs ts row (voiceless q) = Lacks (holds (next_row ts row)) (next_row ts row) q
StepIs ts row (wide n) = (r : List Spine) × Gives ts row r × (n ≡ length r) × (256 < n)

pub step_is : (ts : List PathToken) (row : List Spine) → StepIs ts row (step_row row ts)
unfolding step_row voice_row
step_is ts row = by_run (mixed_run (part_at row) ts) refl (narrow (give_voices (holds (next_row ts row)) (next_row ts row))) (go (give_voices (holds (next_row ts row)) (next_row ts row)) (give_is (holds (next_row ts row)) (next_row ts row)))
  where
    by_run : (m : Option ℕ) → mixed_run (part_at row) ts ≡ m → (o : Outcome) → StepIs ts row o → StepIs ts row (unmixed m o)
    by_run none e o k = k
    by_run (some c) e o k = (c, e, refl)

    fits : (r : List Spine) (b : Bool) → leb (length r) 256 ≡ b → Gives ts row r → StepIs ts row (cond b (next r) (wide (length r)))
    fits r true e g = (g, leb-true (length r) 256 e)
    fits r false e g = (r, g, refl, leb-false (length r) 256 e)

    go : (o : Outcome) → GiveIs (holds (next_row ts row)) (next_row ts row) o → StepIs ts row (narrow o)
    go (next r) g = fits r (leb (length r) 256) refl g
    go (mixed c) g = absurd g
    go (voiceless q) g = g
    go (wide n) g = absurd g

module _ (ts : List PathToken) (row r : List Spine) (s : Sound row) (g : Gives ts row r) where
  gives_settles : Settles (λ p v. 0) (next_row ts row) r
  gives_settles = settles (holds (next_row ts row)) (λ p v. 0) (next_row ts row) r (next_fair ts row s) g

  pub gives_sound : Sound r
  gives_sound = record { once = λ p v. omega (arith, gives_settles.once p v); low = gives_settles.low; settled = gives_settles.settled }

  -- at most four spines of a part
  pub gives_four : (p : ℕ) → total (of_part p) (next_row ts row) ≤ 4
  gives_four p =
      let k : Settles (λ p v. 0) (next_row ts row) r = gives_settles in
      omega (arith, k.parts p, k.settled p, k.low, k.once p 0, k.once p 1, k.once p 2, k.once p 3, total_four p r, part_total p r)

  pub gives_at : (j : ℕ) → Kept (spine_at (next_row ts row) j) (spine_at r j)
  gives_at = voiced_at (holds (next_row ts row)) (next_row ts row) r g

  pub gives_part : length ts ≡ length row → (j : ℕ) → part_at r j ≡ bind (column_of (origin ts j)) (part_at row)
  unfolding part_at
  gives_part e j = kept_part (spine_at (next_row ts row) j) (spine_at r j) (gives_at j) ∙ next_part ts row e j

  pub gives_length : length ts ≡ length row → length r ≡ width ts
  gives_length e = voiced_length (holds (next_row ts row)) (next_row ts row) r g ∙ next_length ts row e

-- ---- any record

-- a record's row, or that it is kept
abbrev pub Takes : Rec → List Spine → List Spine → Type 0
Takes (star ts) row r = Gives ts row r × (length r ≤ 256)
Takes (plain k) row r = row ≡ r

-- 6, 17, 8 or 9
abbrev pub Refuses : Rec → List Spine → ℕ → ℕ → Type 0
Refuses x row q f = ((tokens x ≢ length row) × (q ≡ 6) × (f ≡ tokens x)) ⊎ ((ts : List PathToken) × (x ≡ star ts) × (length ts ≡ length row) × ((o : Outcome) × StepIs ts row o × (reading o ≡ refused q f)))

abbrev pub RecordIs : Rec → List Spine → Reading → Type 0
RecordIs x row (reached r) = (1 ≤ length row) × (tokens x ≡ length row) × Takes x row r
RecordIs x row ended = length row ≡ 0
RecordIs x row (refused q f) = (1 ≤ length row) × Refuses x row q f

pub record_is : (x : Rec) (row : List Spine) → RecordIs x row (take_record row x)
unfolding take_record
record_is x [] = refl
record_is x (s ∷ row) = go (eqb (tokens x) (length (s ∷ row))) refl
  where
    out : (ts : List PathToken) → length ts ≡ length (s ∷ row) → (o : Outcome) → StepIs ts (s ∷ row) o → RecordIs (star ts) (s ∷ row) (reading o)
    out ts e (next r) k = (omega arith, e, k)
    out ts e (mixed c) k = (omega arith, inr (ts, refl, e, (mixed c, k, refl)))
    out ts e (voiceless q) k = (omega arith, inr (ts, refl, e, (voiceless q, k, refl)))
    out ts e (wide n) k = (omega arith, inr (ts, refl, e, (wide n, k, refl)))

    fits : (y : Rec) → tokens y ≡ length (s ∷ row) → RecordIs y (s ∷ row) (read_record (s ∷ row) y)
    fits (star ts) e = out ts e (step_row (s ∷ row) ts) (step_is ts (s ∷ row))
    fits (plain k) e = (omega arith, e, refl)

    go : (b : Bool) → eqb (tokens x) (length (s ∷ row)) ≡ b → RecordIs x (s ∷ row) (cond b (read_record (s ∷ row) x) (refused 6 (tokens x)))
    go true e = fits x (eqb-true (tokens x) (length (s ∷ row)) e)
    go false e = (omega arith, inl (eqb-false (tokens x) (length (s ∷ row)) e, refl, refl))

pub takes_sound : (x : Rec) (row r : List Spine) → Sound row → Takes x row r → Sound r
takes_sound (star ts) row r s k = gives_sound ts row r s k.0
takes_sound (plain m) row r s k = subst Sound k s

pub takes_part : (x : Rec) (row r : List Spine) → Sound row → tokens x ≡ length row → Takes x row r → (j : ℕ) → part_at r j ≡ bind (column_of (origin_in x j)) (part_at row)
unfolding origin_in bind
takes_part (star ts) row r s e k j = gives_part ts row r s k.0 e j
takes_part (plain m) row r s e k j = ap (λ (l : List Spine). part_at l j) (sym k)

pub takes_length : (x : Rec) (row r : List Spine) → Sound row → tokens x ≡ length row → Takes x row r → length r ≡ width_in x (length row)
takes_length (star ts) row r s e k = gives_length ts row r s k.0 e
takes_length (plain m) row r s e k = ap length (sym k)
