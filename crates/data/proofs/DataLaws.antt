-- The loop over the columns of a data record.
use mathlib.Core.Path.{◌≡◌, refl, sym, ap, ap₂, ◌∙◌}
use Prim.Native.Nat.{ℕ, zero, suc, ◌+◌, ◌-◌, ◌≤◌, ◌<◌}
use native.Mathlib.Numerals.{add-one}
use native.Mathlib.Omega.{arith}
use mathlib.Core.List.{List, [], ◌∷◌, map}
use mathlib.Core.Bool.{Bool}
use lib.ListN.{length, take, drop, get_or, length-drop, drop_of_length-le}
use lib.Seq.{length-take-le, get_or-drop, drop-drop}
use Rattle.slices.specs.Split.{pieces, piece_at}
use Rattle.slices.proofs.SplitLaws.{no_piece}
use Rattle.slices.proofs.TestLaws.{clash}
use Rattle.state.specs.Counts.{Same}
use Rattle.state.proofs.CountLaws.{same, same_same}
use Rattle.lines.specs.Tokens.{tokens_of}
use Rattle.lines.proofs.PieceLaws.{Piece}
use Rattle.paths.specs.declared.Spine.{Spine}
use Rattle.spines.specs.Cells.{spine_of, row_of}
use Rattle.spines.proofs.CellLaws.{row_drop, row_none}
use Rattle.reading.specs.State.{State, Step, refused, goes, ends}
use Rattle.reading.specs.declared.Part.{Part}
use Rattle.reading.specs.Notices.{placed, quiet}
use Rattle.reading.specs.Bars.{is_kern_spine}
use Rattle.reading.specs.Notes as notes
use Rattle.state.specs.declared.Tally.{Tally}
use Rattle.refusal.specs.Numbers.{number_of, line_of, figure_of}
use Rattle.refusal.specs.declared.Refusal.{Refusal}
use Rattle.std.specs.Prelude.{Ok, Err, Result}
use Rattle.state.specs.Lay.{laid, behind}
use Rattle.state.specs.View.{Landed, state_of, stopped, going, landed, told}
use Rattle.state.proofs.ViewLaws.{landed_behind}
use Rattle.notes.specs.Spot.{Kept}
use Rattle.data.specs.Column.{column_step, rest}
use Rattle.notes.proofs.TokenLaws.{quiet_step}
use Rattle.reading.proofs.StateLaws.{placed_bytes}

-- ---- a step and what comes after it, by what the code says of the step
then_goes : (s : Step) (g : State → Step) (out new : List ℕ) (at place : ℕ) (st : State) → going st place new ≡ landed s out at
    → landed (notes.and_then s g) out at ≡ landed (g st) new place
then_goes (refused n l f) g out new at place st e = clash cc
then_goes (goes r) g out new at place st e =
    let p : st ≡ r.state = cc in
    let q : place ≡ behind at r.records = cc in
    let o : new ≡ laid out at r.records = cc in
    landed_behind r g out at ∙ sym (rw (p, q, o))
then_goes (ends r) g out new at place st e = clash cc

then_stops : (s : Step) (g : State → Step) (out : List ℕ) (at n l f : ℕ) → stopped n l f ≡ landed s out at
    → landed (notes.and_then s g) out at ≡ stopped n l f
then_stops (refused m k h) g out at n l f e = sym e
then_stops (goes r) g out at n l f e = clash cc
then_stops (ends r) g out at n l f e = clash cc

-- ---- what is left from column i on
no_tokens : (all : List (List ℕ)) (kern : List Bool) (k i : ℕ) (row : List Spine) (st : State) → notes.read_tokens all kern k i row [] st ≡ goes (quiet st)
unfolding notes.read_tokens
no_tokens all kern k i [] st = refl
no_tokens all kern k i (s ∷ row) st = refl

rest_done : (line row : List ℕ) (k offset from i : ℕ) (st : State) → length row ≤ i → rest line row k offset from i st ≡ goes (quiet st)
unfolding notes.read_tokens
rest_done line row k offset from i st h = rw (drop_of_length-le row {i = i} h, row_none)

take_none : (n : ℕ) → take {A = List ℕ} n [] ≡ []
take_none zero = refl
take_none (suc n) = refl

rest_past : (line row : List ℕ) (k offset from i : ℕ) (st : State) → length line < from → rest line row k offset from i st ≡ goes (quiet st)
unfolding placed
rest_past line row k offset from i st h =
    ap (λ (ts : List (List ℕ)).
    notes.read_tokens (take (length row) (tokens_of line)) (map is_kern_spine (row_of row)) k i (row_of (drop i row)) (placed (offset + from) ts) st)
    (ap (take (length row - i)) (no_piece 9 from line h) ∙ take_none (length row - i))
    ∙ no_tokens (take (length row) (tokens_of line)) (map is_kern_spine (row_of row)) k i (row_of (drop i row)) st

-- a column and what is left behind it
rest_more : (line row : List ℕ) (k offset from i e : ℕ) (st : State) → i < length row → Piece 9 line from e
    → rest line row k offset from i st
    ≡ notes.and_then (column_step k offset line row (record { index = i; from = from; end = e }) st) (rest line row k offset (e + 1) (i + 1))
unfolding notes.read_tokens placed column_step
rest_more line row k offset from i e st h p =
    let all : List (List ℕ) = take (length row) (tokens_of line) in
    let kern : List Bool = map is_kern_spine (row_of row) in
    let one : List ℕ = piece_at line from (e - from) in
    let n : length row - i ≡ suc (length row - (i + 1)) = omega arith in
    let long : length one ≡ e - from = length-take-le (e - from) (drop from line) (omega (arith, length-drop from line, p.low, p.high)) in
    let next : offset + from + length one + 1 ≡ offset + (e + 1) = omega (arith, p.low) in
    ap (λ (s : List Spine). notes.read_tokens all kern k i s (placed (offset + from) (take (length row - i) (pieces 9 from line))) st) (row_drop row i h)
    ∙ ap₂ (λ (m : ℕ) (ts : List (List ℕ)). notes.read_tokens all kern k i (spine_of (get_or row i 0) ∷ row_of (drop (i + 1) row)) (placed (offset + from) (take m ts)) st) n p.here
    ∙ ap₂ (λ (j a : ℕ).
    notes.and_then (column_step k offset line row (record { index = i; from = from; end = e }) st)
    (notes.read_tokens all kern k j (row_of (drop (i + 1) row)) (placed a (take (length row - (i + 1)) (pieces 9 (e + 1) line)))))
    (sym (add-one i)) next

-- ---- the loop
-- what the whole comes to is what the rest comes to
pub record Reading (whole : Landed) (line row : List ℕ) (parts₀ : List Part) (out₀ : List ℕ) (t₀ : Tally) (k offset : ℕ) (parts : List Part) (out : List ℕ) (t : Tally) (from i : ℕ) : Type 0 where
  pub high : i ≤ length row
  pub wide : length out ≡ length out₀
  pub kept : Same t₀ t
  pub here : pieces 9 from line ≡ drop i (tokens_of line)
  pub same : whole ≡ landed (rest line row k offset from i (state_of row parts t)) out t.at

-- what a data record comes to
abbrev pub whole_data : List ℕ → List ℕ → List Part → List ℕ → Tally → ℕ → ℕ → Landed
whole_data line row parts out t k offset =
    landed (notes.read_data k (placed offset (take (length row) (tokens_of line))) (state_of row parts t)) out t.at

pub first_piece : (line : List ℕ) → pieces 9 0 line ≡ drop 0 (tokens_of line)
unfolding pieces
first_piece line = refl

-- the token of column i, and those behind it
module _ (i : ℕ) {line : List ℕ} {from e : ℕ} (h : pieces 9 from line ≡ drop i (tokens_of line)) (p : Piece 9 line from e) where
  pub token_here : get_or (tokens_of line) i [] ≡ piece_at line from (e - from)
  token_here =
      let z : i ≡ i + 0 = omega arith in
      ap (λ (n : ℕ). get_or (tokens_of line) n []) z ∙ sym (get_or-drop i (tokens_of line) 0 []) ∙ ap (λ (l : List (List ℕ)). get_or l 0 []) (sym h ∙ p.here)

  pub tokens_behind : pieces 9 (e + 1) line ≡ drop (i + 1) (tokens_of line)
  tokens_behind = ap (drop 1) (sym p.here ∙ h) ∙ drop-drop 1 i (tokens_of line)

pub data_first : (line row : List ℕ) (parts : List Part) (out : List ℕ) (t : Tally) (k offset : ℕ) → Reading (whole_data line row parts out t k offset) line row parts out t k offset parts out t 0 0
unfolding notes.read_data pieces
data_first line row parts out t k offset =
    let ts : List (List ℕ) = take (length row) (tokens_of line) in
    let n : length row ≡ length row - 0 = omega arith in
    let z : offset ≡ offset + 0 = omega arith in
    record {
      high = omega arith;
      wide = refl;
      kept = same t;
      here = first_piece line;
      same = ap (λ (all : List (List ℕ)). landed (notes.read_tokens all (map is_kern_spine (row_of row)) k 0 (row_of row) (placed offset ts) (state_of row parts t)) out t.at) (placed_bytes offset ts)
          ∙ ap₂ (λ (m a : ℕ). landed (notes.read_tokens ts (map is_kern_spine (row_of row)) k 0 (row_of row) (placed a (take m (tokens_of line))) (state_of row parts t)) out t.at) n z;
    }

module _ {whole : Landed} {line row : List ℕ} {parts₀ : List Part} {out₀ : List ℕ} {t₀ : Tally} {k offset : ℕ} {parts : List Part} {out : List ℕ} {t : Tally} {from i : ℕ}
    (inv : Reading whole line row parts₀ out₀ t₀ k offset parts out t from i) where
  -- between two columns
  pub data_past : length line < from → going (state_of row parts t) t.at out ≡ whole
  data_past h =
      quiet_step (state_of row parts t) out t.at
      ∙ ap (λ (s : Step). landed s out t.at) (sym (rest_past line row k offset from i (state_of row parts t) h))
      ∙ sym inv.same

  pub data_done : length row ≤ i → going (state_of row parts t) t.at out ≡ whole
  data_done h =
      quiet_step (state_of row parts t) out t.at
      ∙ ap (λ (s : Step). landed s out t.at) (sym (rest_done line row k offset from i (state_of row parts t) h))
      ∙ sym inv.same

  module _ {e : ℕ} (parts' : List Part) (out' : List ℕ) (r : Result Tally Refusal) (h : i < length row) (p : Piece 9 line from e)
      (tells : told r row parts' out' ≡ landed (column_step k offset line row (record { index = i; from = from; end = e }) (state_of row parts t)) out t.at)
      (keeps : Kept t r) where
    here : whole ≡ landed (notes.and_then (column_step k offset line row (record { index = i; from = from; end = e }) (state_of row parts t)) (rest line row k offset (e + 1) (i + 1))) out t.at
    here = inv.same ∙ ap (λ (s : Step). landed s out t.at) (rest_more line row k offset from i e (state_of row parts t) h p)

    pub data_turn : {u : Tally} → r ≡ Ok u → length out' ≡ length out
        → Reading whole line row parts₀ out₀ t₀ k offset parts' out' u (e + 1) (i + 1)
    data_turn {u} q lo =
        let tells' : going (state_of row parts' u) u.at out' ≡ landed (column_step k offset line row (record { index = i; from = from; end = e }) (state_of row parts t)) out t.at
        = ap (λ (s : Result Tally Refusal). told s row parts' out') (sym q) ∙ tells in
        let keeps' : Kept t (Ok u) = rw q at keeps in
        record {
          high = omega arith;
          wide = lo ∙ inv.wide;
          kept = same_same inv.kept keeps';
          here = tokens_behind i inv.here p;
          same = here
              ∙ then_goes (column_step k offset line row (record { index = i; from = from; end = e }) (state_of row parts t)) (rest line row k offset (e + 1) (i + 1)) out out' t.at u.at (state_of row parts' u) tells';
        }

    pub data_stops : {n : Refusal} → r ≡ Err n
        → told r row parts' out' ≡ whole
    data_stops {n} q =
        let back : told r row parts' out' ≡ stopped (number_of n) (line_of n) (figure_of n) = ap (λ (s : Result Tally Refusal). told s row parts' out') q in
        back
        ∙ sym (here
        ∙ then_stops (column_step k offset line row (record { index = i; from = from; end = e }) (state_of row parts t)) (rest line row k offset (e + 1) (i + 1)) out t.at (number_of n) (line_of n) (figure_of n) (sym back ∙ tells))
