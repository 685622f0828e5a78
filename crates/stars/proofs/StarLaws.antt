-- A star record: its columns, then the next row.
use mathlib.Core.Path.{◌≡◌, refl, sym, subst, ap, ◌∙◌}
use Prim.Native.Nat.{ℕ, ◌+◌, min, ◌≤◌}
use native.Mathlib.Omega.{arith}
use mathlib.Core.List.{List, [], ◌∷◌, map}
use lib.ListN.{length, take}
use Rattle.lines.specs.Tokens.{tokens_of}
use Rattle.paths.specs.declared.PathToken.{PathToken}
use Rattle.paths.specs.Token.{path_token}
use Rattle.paths.specs.declared.Spine.{Spine}
use Rattle.paths.specs.Voices.{Outcome, step_row}
use Rattle.spines.specs.Cells.{row_of}
use Rattle.spines.specs.Tokens.{record_tokens}
use Rattle.voices.specs.declared.Stop.{Stop}
use Rattle.voices.specs.declared.Stop.TheVariants.{Mixed, Voiceless, Wide}
use Rattle.voices.specs.Outcome.{outcome_of}
use Rattle.reading.specs.State.{Result, goes, with_row}
use Rattle.reading.specs.declared.Part.{Part}
use Rattle.reading.specs.Notices.{Token, placed}
use Rattle.reading.specs.Star.{read_columns, to_row, read_star}
use Rattle.state.specs.declared.Tally.{Tally}
use Rattle.refusal.specs.declared.Refusal.{Refusal}
use Rattle.std.specs.Prelude.{Ok, Err, Result as Answered}
use Rattle.state.specs.Ready.{Few}
use Rattle.state.specs.View.{Landed, stopped, going, ending, state_of, landed, told, told_row}
use Rattle.stars.specs.Columns.{filled, columns_of}
use Rattle.stars.specs.Next.{stepped}
use Rattle.stars.proofs.LoopLaws.{path_filled}

placed_paths : (at : ℕ) (ts : List (List ℕ)) → map (λ (t : Token). path_token t.bytes) (placed at ts) ≡ map path_token ts
unfolding placed
placed_paths at [] = refl
placed_paths at (t ∷ ts) = ap (λ (l : List PathToken). path_token t ∷ l) (placed_paths (at + length t + 1) ts)

-- a landed result with another row
abbrev rowed : List Spine → Landed → Landed
rowed row (stopped n l f) = stopped n l f
rowed row (going st at out) = going (with_row st row) at out
rowed row (ending st at out) = ending (with_row st row) at out

by_step : (step : Answered ℕ Stop) (cells row' : List ℕ) (parts' : List Part) (out out' : List ℕ) (t : Tally) (r : Result) (number at : ℕ) → told (Ok t) cells parts' out' ≡ landed (goes r) out at
    → told_row (stepped step t number) row' parts' out' ≡ landed (to_row number r (outcome_of step row')) out at
by_step (Ok n) cells row' parts' out out' t r number at h = ap (rowed (row_of (take n row'))) h
by_step (Err (Mixed c)) cells row' parts' out out' t r number at h = refl
by_step (Err (Voiceless p)) cells row' parts' out out' t r number at h = refl
by_step (Err (Wide n)) cells row' parts' out out' t r number at h = refl

module _ (text row row' : List ℕ) (parts parts' : List Part) (out out' : List ℕ) (tally t : Tally) (number offset : ℕ) where
  abbrev cells : List ℕ
  cells = take tally.active row

  pub star_told : (step : Answered ℕ Stop) {r : Answered Tally Refusal}
      → told (Ok t) cells parts' out' ≡ landed (goes (columns_of text cells number offset (state_of cells parts tally))) out tally.at → length cells ≡ tally.active
      → tally.active ≤ 256
      → outcome_of step row' ≡ step_row (row_of (take (min tally.active 256) row)) (record_tokens (min tally.active 256) text)
      → r ≡ stepped step t number
      → told_row r row' parts' out' ≡ landed (read_star number (placed offset (filled (length cells) (tokens_of text))) (state_of cells parts tally)) out tally.at
  unfolding read_star
  star_told step so long few s e =
      let m : min tally.active 256 ≡ tally.active = omega arith in
      let l : tally.active ≡ length cells = sym long in
      let result : Result = columns_of text cells number offset (state_of cells parts tally) in
      let next : outcome_of step row' ≡ step_row (row_of cells) (map path_token (filled (length cells) (tokens_of text)))
      = s ∙ ap (λ (k : ℕ). step_row (row_of (take k row)) (record_tokens k text)) m
      ∙ ap (λ (k : ℕ). step_row (row_of cells) (record_tokens k text)) l
      ∙ ap (step_row (row_of cells)) (sym (path_filled (length cells) (tokens_of text))) in
      ap (λ (x : Answered Tally Refusal). told_row x row' parts' out') e
      ∙ by_step step cells row' parts' out out' t result number tally.at so
      ∙ ap (λ (o : Outcome). landed (to_row number result o) out tally.at) next
      ∙ ap (λ (ps : List PathToken). landed (to_row number (read_columns ps number 0 (row_of cells) (placed offset (filled (length cells) (tokens_of text))) (state_of cells parts tally))
      (step_row (row_of cells) ps)) out tally.at)
      (sym (placed_paths offset (filled (length cells) (tokens_of text))))

pub star_few : (step : Answered ℕ Stop) (t : Tally) (k : ℕ) {r : Answered Tally Refusal} → t.parts ≤ 256 → r ≡ stepped step t k → Few r
star_few step t k h e = subst Few (sym e) (go step)
  where
    go : (s : Answered ℕ Stop) → Few (stepped s t k)
    go (Ok n) = h
    go (Err (Mixed c)) = tt
    go (Err (Voiceless p)) = tt
    go (Err (Wide n)) = tt
