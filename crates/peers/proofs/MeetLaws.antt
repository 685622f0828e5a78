-- One neighbour more, and one column more.
use mathlib.Core.Path.{◌≡◌, refl, sym, ap, ◌∙◌}
use Prim.Native.Nat.{ℕ, suc, ◌+◌, ◌-◌, ◌≤◌, ◌<◌}
use native.Mathlib.Numerals.{add-one}
use native.Mathlib.Omega.{arith}
use mathlib.Core.List.{List, [], ◌∷◌}
use mathlib.Core.Bool.{Bool, true, false, cond}
use lib.Dec.{leb}
use lib.ListN.{length, drop, get_or, drop_of_length-le}
use lib.Seq.{drop-cons}
use Rattle.slices.specs.Split.{pieces, piece_at}
use Rattle.slices.proofs.SplitLaws.{next_piece, no_piece}
use Rattle.lines.specs.Lines.{piece_end}
use Rattle.lines.specs.Tokens.{tokens_of}
use Rattle.peers.specs.Peers.{offer_of, kern_cells, Tally, one, broken, begun_by, met, settled, Agreement, first_lacking, column_met, summed, kern_tokens, nothing_met, summary_of, agreed_digits}
use Rattle.peers.proofs.SummaryLaws.{Some, met_none}

-- ---- the first neighbour
pub begun_some : (ds : List ℕ) → (length ds ≡ 0 → ⊥) → one ds ≡ begun_by ds
begun_some [] h = absurd (h refl)
begun_some (x ∷ xs) h = refl

-- ---- one kern column more, while none was met that offers nothing
lacks_by : (o : List ℕ) (y : Tally) (t : List ℕ) → (o ≡ [] → ⊥) → record { lacking = false; tally = met y t } ≡ first_lacking o y t
lacks_by [] y t h = absurd (h refl)
lacks_by (d ∷ ds) y t h = refl

pub lacks_some : (y : Tally) (t : List ℕ) → (offer_of t ≡ [] → ⊥) → record { lacking = false; tally = met y t } ≡ column_met false y t
lacks_some y t h = lacks_by (offer_of t) y t h

-- what a column that offers nothing leaves is broken
pub lacks_whole : (y : Tally) (t : List ℕ) → Some y → (met y t ≡ broken → ⊥) → record { lacking = false; tally = met y t } ≡ column_met false y t
lacks_whole y t s h = lacks_some y t (λ e. h (met_none y t s e))

-- ---- the loop over the columns
pub record Passing (line row : List ℕ) (from i : ℕ) (a : Agreement) : Type 0 where
  pub high : i ≤ length row
  pub same : summary_of (tokens_of line) (kern_cells row) ≡ summed a (kern_tokens (pieces 9 from line) (kern_cells (drop i row)))

pub pass_first : {line row : List ℕ} → Passing line row 0 0 nothing_met
unfolding pieces
pass_first = record { high = omega arith; same = refl }

one_column : (k : Bool) (a : Agreement) (t : List ℕ) (ts : List (List ℕ)) → summed a (cond k (t ∷ ts) ts) ≡ summed (cond k (column_met a.lacking a.tally t) a) ts
one_column true a t ts = refl
one_column false a t ts = refl

no_cells : (ts : List (List ℕ)) → kern_tokens ts [] ≡ []
unfolding kern_tokens
no_cells [] = refl
no_cells (t ∷ ts) = refl

-- once broken, it stays so
stays_broken : (l : Bool) (ts : List (List ℕ)) → settled (summed (record { lacking = l; tally = broken }) ts).tally ≡ []
stays_broken l [] = refl
stays_broken true (t ∷ ts) = stays_broken true ts
stays_broken false (t ∷ ts) = go (offer_of t) (stays_broken true ts) (stays_broken false ts)
  where
    go : (o : List ℕ) → settled (summed (record { lacking = true; tally = broken }) ts).tally ≡ [] → settled (summed (record { lacking = false; tally = broken }) ts).tally ≡ []
        → settled (summed (first_lacking o broken t) ts).tally ≡ []
    go [] p q = p
    go (d ∷ ds) p q = q

module _ {line row : List ℕ} {from i : ℕ} {a : Agreement} (inv : Passing line row from i a) where
  pub pass_turn : {e : ℕ} {next : Agreement} → i < length row → from ≤ length line → e ≡ piece_end 9 line from
      → next ≡ cond (leb 8 (get_or row i 0)) (column_met a.lacking a.tally (piece_at line from (e - from))) a
      → Passing line row (e + 1) (i + 1) next
  unfolding kern_tokens kern_cells
  pass_turn {e} {next} h l at q =
      let rest : List (List ℕ) = kern_tokens (pieces 9 (e + 1) line) (kern_cells (drop (suc i) row)) in
      record {
        high = omega arith;
        same = inv.same
            ∙ ap (λ (ts : List (List ℕ)). summed a (kern_tokens ts (kern_cells (drop i row)))) (next_piece 9 from e line l at)
            ∙ ap (λ (cs : List ℕ). summed a (kern_tokens (piece_at line from (e - from) ∷ pieces 9 (e + 1) line) (kern_cells cs))) (drop-cons row i 0 h)
            ∙ one_column (leb 8 (get_or row i 0)) a (piece_at line from (e - from)) rest
            ∙ ap (λ (b : Agreement). summed b rest) (sym q)
            ∙ ap (λ (k : ℕ). summed next (kern_tokens (pieces 9 (e + 1) line) (kern_cells (drop k row)))) (sym (add-one i));
      }

  pub line_past : {ds : List ℕ} → length line < from → ds ≡ settled a.tally → ds ≡ agreed_digits (tokens_of line) (kern_cells row)
  unfolding kern_tokens
  line_past {ds} h e =
      e ∙ ap (λ (b : Agreement). settled b.tally) (sym (inv.same ∙ ap (λ (ts : List (List ℕ)). summed a (kern_tokens ts (kern_cells (drop i row)))) (no_piece 9 from line h)))

  pub row_past : {ds : List ℕ} → length row ≤ i → ds ≡ settled a.tally → ds ≡ agreed_digits (tokens_of line) (kern_cells row)
  unfolding kern_cells
  row_past {ds} h e =
      e
      ∙ ap (λ (b : Agreement). settled b.tally) (sym (inv.same
      ∙ ap (λ (cs : List ℕ). summed a (kern_tokens (pieces 9 from line) (kern_cells cs))) (drop_of_length-le row h)
      ∙ ap (summed a) (no_cells (pieces 9 from line))))

  pub broken_stop : a.tally ≡ broken → [] ≡ agreed_digits (tokens_of line) (kern_cells row)
  broken_stop z =
      let rest : List (List ℕ) = kern_tokens (pieces 9 from line) (kern_cells (drop i row)) in
      sym (stays_broken a.lacking rest)
      ∙ ap (λ (y : Tally). settled (summed (record { lacking = a.lacking; tally = y }) rest).tally) (sym z)
      ∙ ap (λ (b : Agreement). settled b.tally) (sym inv.same)
