-- The loop over the columns of a star record.
use Rattle.std.specs.Prelude.{Ok}
use mathlib.Core.Path.{◌≡◌, refl, sym, ap, ap₂, ◌∙◌}
use Prim.Native.Nat.{ℕ, zero, suc, ◌+◌, ◌-◌, ◌≤◌, ◌<◌}
use native.Mathlib.Nat.{add-zero}
use native.Mathlib.Numerals.{add-one}
use native.Mathlib.Omega.{arith}
use mathlib.Core.Bool.{Bool, false, ◌&&◌, ◌||◌, not}
use mathlib.Core.List.{List, [], ◌∷◌, ◌++◌, map}
use lib.ListN.{length, take, drop, get_or, replicate, length-drop, drop_of_length-le}
use lib.Seq.{drop-drop, get_or-drop, length-take-le}
use Rattle.slices.specs.Ascii.{ascii}
use Rattle.slices.specs.Split.{pieces}
use Rattle.slices.proofs.SplitLaws.{all_pieces, no_piece}
use Rattle.state.proofs.CountLaws.{same, same_same}
use Rattle.state.specs.Counts.{Same}
use Rattle.lines.specs.Tokens.{tokens_of}
use Rattle.lines.proofs.PieceLaws.{Piece}
use Rattle.interpretation.specs.Interpretation.{interpretation_of}
use Rattle.paths.specs.declared.PathToken.{PathToken}
use Rattle.paths.specs.declared.PathToken.TheVariants.{Other}
use Rattle.paths.specs.Token.{path_token, is_exchange}
use Rattle.paths.specs.Trace.{token_at, exchanges_right, exchanges_left}
use Rattle.paths.specs.declared.Spine.{Spine}
use Rattle.paths.specs.declared.Spine.TheVariants.{Line, Branch, Outside}
use Rattle.spines.specs.Cells.{spine_of, row_of}
use Rattle.spines.specs.Tokens.{path_tokens}
use Rattle.spines.proofs.CellLaws.{cell_at, row_drop, row_none}
use Rattle.reading.specs.State.{State, Result, goes}
use Rattle.reading.specs.declared.Part.{Part}
use Rattle.reading.specs.Notices.{Token, placed, quiet, after}
use Rattle.reading.specs.Star.{interpret, column_by, paired, read_columns}
use Rattle.state.specs.declared.Tally.{Tally}
use Rattle.state.specs.Lay.{laid, behind}
use Rattle.state.specs.Ready.{Ready}
use Rattle.state.specs.View.{Landed, stopped, going, ending, state_of, landed, told}
use Rattle.state.proofs.LayLaws.{laid_append, behind_append}
use Rattle.stars.specs.Columns.{filled, token_of, columns_of, Comes, Fit}
use Rattle.stars.proofs.PairLaws.{tokens_at, right_all, left_first, left_next}
use Rattle.spines.proofs.RecordLaws.{star_other}

-- ---- a record's tokens, filled

fill_zero : (ts : List (List ℕ)) → filled 0 ts ≡ []
unfolding filled
fill_zero ts = let z : 0 - length ts ≡ 0 = omega arith in ap (λ (k : ℕ). replicate k (ascii "*")) z

fill_star : (n : ℕ) → filled (suc n) [] ≡ ascii "*" ∷ filled n []
unfolding filled
fill_star zero = refl
fill_star (suc n) =
    let z : suc (suc n) - 0 ≡ suc (suc n - 0) = omega arith in
    ap (λ (k : ℕ). replicate k (ascii "*")) z

fill_cons : (n : ℕ) (t : List ℕ) (ts : List (List ℕ)) → filled (suc n) (t ∷ ts) ≡ t ∷ filled n ts
unfolding filled
fill_cons n t ts =
    let z : suc n - suc (length ts) ≡ n - length ts = omega arith in
    ap (λ (k : ℕ). t ∷ (take n ts ++ replicate k (ascii "*"))) z

-- the code reads the tokens of the line as it stands
pub path_filled : (n : ℕ) (ts : List (List ℕ)) → map path_token (filled n ts) ≡ path_tokens n ts
unfolding path_tokens
path_filled zero ts = ap (map path_token) (fill_zero ts)
path_filled (suc n) [] = ap (map path_token) (fill_star n) ∙ ap₂ (λ (t : PathToken) (l : List PathToken). t ∷ l) star_other (path_filled n [])
path_filled (suc n) (t ∷ ts) = ap (map path_token) (fill_cons n t ts) ∙ ap (λ (l : List PathToken). path_token t ∷ l) (path_filled n ts)

-- ---- a filled `*` does nothing

star_interpret : (s : Spine) (k j at : ℕ) (st : State) → interpret s k j (token_of at (ascii "*")) st ≡ quiet st
unfolding interpretation_of
star_interpret (Line p v) k j at st = refl
star_interpret (Branch p) k j at st = refl
star_interpret Outside k j at st = refl

star_quiet : (b : Bool) (s : Spine) (k j at : ℕ) (st : State) → column_by (path_token (ascii "*")) b s k j (token_of at (ascii "*")) st ≡ quiet st
star_quiet b s k j at st =
    ap (λ (t : PathToken). column_by t b s k j (token_of at (ascii "*")) st) star_other ∙ star_interpret s k j at st

stars_quiet : (ps : List PathToken) (k i : ℕ) (row : List Spine) (at n : ℕ) (st : State) → read_columns ps k i row (placed at (filled n [])) st ≡ quiet st
unfolding read_columns placed
stars_quiet ps k i [] at n st = refl
stars_quiet ps k i (s ∷ row) at zero st = ap (λ (ts : List (List ℕ)). read_columns ps k i (s ∷ row) (placed at ts) st) (fill_zero [])
stars_quiet ps k i (s ∷ row) at (suc n) st =
    ap (λ (ts : List (List ℕ)). read_columns ps k i (s ∷ row) (placed at ts) st) (fill_star n)
    ∙ ap (λ (r : Result). after r (read_columns ps k (suc i) row (placed (at + 1 + 1) (filled n [])))) (star_quiet (paired ps i) s k (i + 1) at st)
    ∙ stars_quiet ps k (suc i) row (at + 1 + 1) n st

-- ---- the loop

-- what comes after a landed result
abbrev onward : (State → Result) → Landed → Landed
onward f (stopped n l g) = stopped n l g
onward f (going st at out) = landed (goes (f st)) out at
onward f (ending st at out) = ending st at out

landed_after : (r : Result) (f : State → Result) (out : List ℕ) (at : ℕ) → landed (goes (after r f)) out at ≡ onward f (landed (goes r) out at)
landed_after r f out at =
    ap₂ (going (f r.state).state) (behind_append r.records (f r.state).records at) (laid_append r.records (f r.state).records out at)

abbrev paths_of : List ℕ → List ℕ → List PathToken
paths_of text cells = map path_token (filled (length cells) (tokens_of text))

-- the columns from column i on, whose token begins at an index
abbrev onwards : List ℕ → List ℕ → ℕ → ℕ → ℕ → ℕ → State → Result
onwards text cells number offset from i =
    read_columns (paths_of text cells) number i (row_of (drop i cells)) (placed (offset + from) (filled (length cells - i) (pieces 9 from text)))

-- the token from one index to another
abbrev here_of : List ℕ → ℕ → ℕ → List ℕ
here_of text from e = take (e - from) (drop from text)

pub record Loop (text cells : List ℕ) (number offset : ℕ) (parts₀ : List Part) (out₀ : List ℕ) (tally : Tally) (parts : List Part) (out : List ℕ) (t : Tally) (left : Bool) (from i : ℕ) : Type 0 where
  pub high : i ≤ length cells
  pub near : from ≤ length text + 1
  pub kept : length out ≡ length out₀
  pub held : Same tally t
  pub tokens : drop i (paths_of text cells) ≡ path_tokens (length cells - i) (pieces 9 from text)
  pub pairs : left ≡ exchanges_left (paths_of text cells) i
  pub same : landed (goes (columns_of text cells number offset (state_of cells parts₀ tally))) out₀ tally.at
      ≡ landed (goes (onwards text cells number offset from i (state_of cells parts t))) out t.at

zero_off : (k : ℕ) → k - 0 ≡ k
zero_off k = omega arith

pub loop_first : {text cells : List ℕ} {number offset : ℕ} {parts : List Part} {out : List ℕ} {tally : Tally}
    → Loop text cells number offset parts out tally parts out tally false 0 0
loop_first {text} {cells} {number} {offset} {parts} {out} {tally} = record {
  high = omega arith;
  near = omega arith;
  kept = refl;
  held = same tally;
  tokens = path_filled (length cells) (tokens_of text)
      ∙ ap₂ (λ (k : ℕ) (ts : List (List ℕ)). path_tokens k ts) (sym (zero_off (length cells))) (sym (all_pieces 9 text));
  pairs = left_first (paths_of text cells);
  same =
      ap (λ (k : ℕ). landed (goes (read_columns (paths_of text cells) number 0 (row_of cells) (placed k (filled (length cells) (tokens_of text))) (state_of cells parts tally))) out tally.at) (sym (add-zero offset))
      ∙ ap₂ (λ (k : ℕ) (ts : List (List ℕ)). landed (goes (read_columns (paths_of text cells) number 0 (row_of cells) (placed (offset + 0) (filled k ts)) (state_of cells parts tally))) out tally.at)
      (sym (zero_off (length cells))) (sym (all_pieces 9 text));
}

module _ {text cells : List ℕ} {number offset : ℕ} {parts₀ : List Part} {out₀ : List ℕ} {tally : Tally} {parts : List Part} {out : List ℕ} {t : Tally} {left : Bool} {from i : ℕ}
    (inv : Loop text cells number offset parts₀ out₀ tally parts out t left from i) where
  pub loop_fit : {s : Spine} → Ready cells tally → i < length cells → s ≡ spine_of (get_or cells i 0) → Fit s t
  loop_fit ready low e = record {
    parts_few = omega (arith, inv.held.parts, ready.parts_few);
    within = λ (p v : ℕ) q. omega (arith, inv.held.parts, ready.within i p v (cell_at cells i low ∙ sym e ∙ q));
  }

  module _ {e : ℕ} {right both : Bool} (low : i < length cells) (piece : Piece 9 text from e)
      (rights : right ≡ (is_exchange (token_at (path_tokens (length cells - i) (pieces 9 from text)) 0) && is_exchange (token_at (path_tokens (length cells - i) (pieces 9 from text)) 1) && not left))
      (boths : both ≡ (right || left)) where
    more : length cells - i ≡ suc (length cells - (i + 1))
    more = omega arith

    token_is : (j : ℕ) → token_at (path_tokens (length cells - i) (pieces 9 from text)) j ≡ token_at (paths_of text cells) (i + j)
    token_is j = ap (λ (ts : List PathToken). token_at ts j) (sym inv.tokens) ∙ get_or-drop i (paths_of text cells) j Other

    right_is : right ≡ exchanges_right (paths_of text cells) i
    right_is =
        rights
        ∙ ap₂ (λ (a b : PathToken). is_exchange a && is_exchange b && not left)
        (token_is 0 ∙ ap (token_at (paths_of text cells)) (add-zero i)) (token_is 1 ∙ ap (token_at (paths_of text cells)) (add-one i))
        ∙ ap (λ (b : Bool). is_exchange (token_at (paths_of text cells) i) && is_exchange (token_at (paths_of text cells) (suc i)) && not b) inv.pairs
        ∙ sym (right_all (paths_of text cells) i)

    both_is : both ≡ paired (paths_of text cells) i
    both_is = boths ∙ ap₂ (λ (a b : Bool). a || b) right_is inv.pairs

    here_long : length (here_of text from e) ≡ e - from
    here_long = length-take-le (e - from) (drop from text) (omega (arith, piece.low, piece.high, length-drop from text))

    placed_is : placed (offset + from) (filled (length cells - i) (pieces 9 from text))
        ≡ token_of (offset + from) (here_of text from e) ∷ placed (offset + (e + 1)) (filled (length cells - (i + 1)) (pieces 9 (e + 1) text))
    unfolding placed
    placed_is =
        let w : offset + from + length (here_of text from e) + 1 ≡ offset + (e + 1) = omega (arith, here_long, piece.low) in
        ap₂ (λ (k : ℕ) (ts : List (List ℕ)). placed (offset + from) (filled k ts)) more piece.here
        ∙ ap (placed (offset + from)) (fill_cons (length cells - (i + 1)) (here_of text from e) (pieces 9 (e + 1) text))
        ∙ ap (λ (k : ℕ). token_of (offset + from) (here_of text from e) ∷ placed k (filled (length cells - (i + 1)) (pieces 9 (e + 1) text))) w

    one_column : (st : State) → onwards text cells number offset from i st
        ≡ after (column_by (path_token (here_of text from e)) both (spine_of (get_or cells i 0)) number (i + 1) (token_of (offset + from) (here_of text from e)) st) (onwards text cells number offset (e + 1) (i + 1))
    unfolding read_columns
    one_column st =
        ap₂ (λ (row : List Spine) (ts : List Token). read_columns (paths_of text cells) number i row ts st) (row_drop cells i low) placed_is
        ∙ ap₂ (λ (b : Bool) (k : ℕ). after (column_by (path_token (here_of text from e)) b (spine_of (get_or cells i 0)) number (i + 1) (token_of (offset + from) (here_of text from e)) st)
        (read_columns (paths_of text cells) number k (row_of (drop (i + 1) cells)) (placed (offset + (e + 1)) (filled (length cells - (i + 1)) (pieces 9 (e + 1) text)))))
        (sym both_is) (sym (add-one i))

    pub loop_turn : {parts' : List Part} {out' : List ℕ} {r : Tally} → Comes (column_by (path_token (here_of text from e)) both (spine_of (get_or cells i 0)) number (i + 1) (token_of (offset + from) (here_of text from e))) parts out t parts' out' r
        → length out' ≡ length out
        → Loop text cells number offset parts₀ out₀ tally parts' out' r right (e + 1) (i + 1)
    loop_turn comes o = record {
      high = omega arith;
      near = omega (arith, piece.high);
      kept = o ∙ inv.kept;
      held = same_same inv.held comes.held;
      tokens = sym (drop-drop 1 i (paths_of text cells)) ∙ ap (drop 1) inv.tokens
          ∙ ap (drop 1) (tokens_at {n = length cells - i} (omega arith) piece)
          ∙ ap (λ (k : ℕ). path_tokens k (pieces 9 (e + 1) text)) (omega arith);
      pairs = right_is ∙ sym (left_next (paths_of text cells) i) ∙ ap (exchanges_left (paths_of text cells)) (sym (add-one i));
      same = inv.same
          ∙ ap (λ (x : Result). landed (goes x) out t.at) (one_column (state_of cells parts t))
          ∙ landed_after (column_by (path_token (here_of text from e)) both (spine_of (get_or cells i 0)) number (i + 1) (token_of (offset + from) (here_of text from e)) (state_of cells parts t))
          (onwards text cells number offset (e + 1) (i + 1)) out t.at
          ∙ ap (onward (onwards text cells number offset (e + 1) (i + 1))) (sym (comes.same cells));
    }

  pub line_past : length text < from
      → told (Ok t) cells parts out ≡ landed (goes (columns_of text cells number offset (state_of cells parts₀ tally))) out₀ tally.at
  unfolding laid behind
  line_past h = sym (inv.same
      ∙ ap (λ (ts : List (List ℕ)). landed (goes (read_columns (paths_of text cells) number i (row_of (drop i cells)) (placed (offset + from) (filled (length cells - i) ts)) (state_of cells parts t))) out t.at)
      (no_piece 9 from text h)
      ∙ ap (λ (x : Result). landed (goes x) out t.at)
      (stars_quiet (paths_of text cells) number i (row_of (drop i cells)) (offset + from) (length cells - i) (state_of cells parts t)))

  pub row_past : length cells ≤ i
      → told (Ok t) cells parts out ≡ landed (goes (columns_of text cells number offset (state_of cells parts₀ tally))) out₀ tally.at
  unfolding laid behind read_columns
  row_past h = sym (inv.same
      ∙ ap (λ (row : List Spine). landed (goes (read_columns (paths_of text cells) number i row (placed (offset + from) (filled (length cells - i) (pieces 9 from text))) (state_of cells parts t))) out t.at)
      (ap row_of (drop_of_length-le cells h) ∙ row_none))
