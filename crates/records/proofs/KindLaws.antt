-- A record by its kind: from the tokens that the code reads to those of the repaired record.
use mathlib.Core.Path.{◌≡◌, refl, sym, ap, ◌∙◌}
use Prim.Native.Nat.{ℕ}
use mathlib.Core.List.{List}
use lib.ListN.{length, take}
use Rattle.slices.specs.Ascii.{ascii}
use Rattle.lines.specs.Lines.{kind_of}
use Rattle.lines.specs.Tokens.{tokens_of}
use Rattle.lines.specs.declared.Kind.{Kind}
use Rattle.lines.specs.declared.Kind.TheVariants.{Empty, Reference, Comment, Star, Bar, Data}
use Rattle.repair.specs.Repair.{first_of, repaired}
use Rattle.reading.specs.State.{goes}
use Rattle.reading.specs.declared.Part.{Part}
use Rattle.reading.specs.Notices.{placed, quiet}
use Rattle.reading.specs.Star.{read_star}
use Rattle.reading.specs.Bars.{read_bar}
use Rattle.reading.specs.Notes.{read_data}
use Rattle.reading.specs.Records.{by_kind}
use Rattle.state.specs.declared.Tally.{Tally}
use Rattle.refusal.specs.declared.Refusal.{Refusal}
use Rattle.std.specs.Prelude.{Ok, Result, ◌⊎◌}
use Rattle.std.proofs.Common.{inl, inr}
use Rattle.state.specs.View.{state_of, Landed, landed, told, told_row}
use Rattle.stars.specs.Columns.{filled}
use Rattle.bars.specs.Bars.{filled_bars}
use Rattle.notes.specs.Spot.{Kept}
use Rattle.records.specs.Here.{Under, Evenly}
use Rattle.state.specs.Counts.{with_active}
use Rattle.records.proofs.RepairLaws.{filled_with, star_tokens, bar_tokens, data_tokens}
use Rattle.records.proofs.OutcomeLaws.{kept_row, quiet_told}

-- filled as each kind is
filled_stars : (n : ℕ) (ts : List (List ℕ)) → filled n ts ≡ filled_with (ascii "*") n ts
unfolding filled
filled_stars n ts = refl

filled_bars_lem : (n : ℕ) (ts : List (List ℕ)) → filled_bars n ts ≡ filled_with (first_of ts) n ts
unfolding filled_bars
filled_bars_lem n ts = refl

module _ (parts : List Part) {row : List ℕ} {t : Tally} (u : Under row t) (line : List ℕ) (even : Evenly t.active line) where
  abbrev cells : List ℕ
  cells = take t.active row

  abbrev ts : List (List ℕ)
  ts = tokens_of line

  pub star_filled : kind_of line ≡ Star → filled (length cells) ts ≡ repaired t.active ts
  star_filled k = ap (λ (n : ℕ). filled n ts) u.long ∙ filled_stars t.active ts ∙ sym (star_tokens t.active line even.0 even.1 k)

  pub bar_filled : kind_of line ≡ Bar → filled_bars (length cells) ts ≡ repaired t.active ts
  bar_filled k = ap (λ (n : ℕ). filled_bars n ts) u.long ∙ filled_bars_lem t.active ts ∙ sym (bar_tokens t.active line even.0 even.1 k)

  pub data_taken : kind_of line ≡ Data → take (length cells) ts ≡ repaired t.active ts
  data_taken k = ap (λ (n : ℕ). take n ts) u.long ∙ sym (data_tokens t.active line even.0 even.1 k).0

  -- what the three readings say
  pub bar_told : (closed v : Tally) (parts' : List Part) (out' out : List ℕ) → kind_of line ≡ Bar → v ≡ with_active closed t.active
      → ((offset : ℕ) → told (Ok closed) cells parts' out' ≡ landed (goes (read_bar (placed offset (filled_bars (length cells) ts)) (state_of cells parts t))) out t.at)
      → (offset : ℕ) → told_row (Ok v) row parts' out' ≡ landed (goes (read_bar (placed offset (repaired t.active ts)) (state_of cells parts t))) out t.at
  bar_told closed v parts' out' out k e so offset =
      ap (λ (x : Tally). told_row (Ok x) row parts' out') e
      ∙ so offset
      ∙ ap (λ (l : List (List ℕ)). landed (goes (read_bar (placed offset l) (state_of cells parts t))) out t.at) (bar_filled k)

  pub data_told : (s : Result Tally Refusal) (parts' : List Part) (out' out : List ℕ) (number offset : ℕ) → kind_of line ≡ Data
      → told s cells parts' out' ≡ landed (read_data number (placed offset (take (length cells) ts)) (state_of cells parts t)) out t.at → Kept t s
      → told_row s row parts' out' ≡ landed (read_data number (placed offset (repaired t.active ts)) (state_of cells parts t)) out t.at
  data_told s parts' out' out number offset k so kept =
      kept_row s t kept row parts' out'
      ∙ so
      ∙ ap (λ (l : List (List ℕ)). landed (read_data number (placed offset l) (state_of cells parts t)) out t.at) (data_taken k)

  -- by the kind that the code matched
  module _ (s : Result Tally Refusal) (row' : List ℕ) (parts' : List Part) (out' out : List ℕ) (number offset : ℕ) (kind : Kind) (is : kind ≡ kind_of line) where
    abbrev comes : Kind → Landed
    comes k = landed (by_kind k number (placed offset (repaired t.active ts)) (state_of cells parts t)) out t.at

    pub by_star : kind ≡ Star
        → told_row s row' parts' out' ≡ landed (read_star number (placed offset (filled (length cells) ts)) (state_of cells parts t)) out t.at
        → told_row s row' parts' out' ≡ comes kind
    by_star k so =
        so
        ∙ ap (λ (l : List (List ℕ)). landed (read_star number (placed offset l) (state_of cells parts t)) out t.at) (star_filled (sym is ∙ k))
        ∙ ap comes (sym k)

  -- a kind that is no record
  module _ (out : List ℕ) (number offset : ℕ) (kind : Kind) where
    pub by_none : (kind ≡ Empty) ⊎ ((kind ≡ Reference) ⊎ (kind ≡ Comment))
        → told_row (Ok t) row parts out ≡ landed (by_kind kind number (placed offset (repaired t.active ts)) (state_of cells parts t)) out t.at
    by_none k = quiet_told t cells parts out ∙ go k
      where
        go : (kind ≡ Empty) ⊎ ((kind ≡ Reference) ⊎ (kind ≡ Comment))
            → landed (goes (quiet (state_of cells parts t))) out t.at ≡ landed (by_kind kind number (placed offset (repaired t.active ts)) (state_of cells parts t)) out t.at
        go (inl e) = rw e
        go (inr (inl e)) = rw e
        go (inr (inr e)) = rw e
