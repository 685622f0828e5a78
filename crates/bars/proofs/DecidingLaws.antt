-- The token that decides: that of the first kern spine, or the first.
use mathlib.Core.Path.{◌≡◌, refl, sym, ap, ap₂, ◌∙◌}
use Prim.Native.Nat.{ℕ, zero, suc, ◌+◌, ◌-◌, ◌<◌}
use native.Mathlib.Nat.{not-suc-le-zero}
use native.Mathlib.Omega.{arith}
use mathlib.Core.Bool.{Bool, true, false, cond}
use mathlib.Core.List.{List, [], ◌∷◌, ◌++◌, head_d}
use lib.ListN.{length, take, replicate}
use Rattle.std.proofs.Common.{Option, Some, None}
use Rattle.std.specs.List.{find, zip}
use Rattle.slices.specs.Split.{split, piece_at}
use Rattle.slices.proofs.SplitLaws.{first_piece, all_pieces}
use Rattle.lines.specs.Lines.{piece_end}
use Rattle.lines.specs.Tokens.{tokens_of}
use Rattle.lines.proofs.PieceLaws.{Piece, piece_at_lem}
use Rattle.paths.specs.declared.Spine.{Spine}
use Rattle.repair.specs.Repair.{first_of}
use Rattle.spines.specs.Cells.{spine_of, row_of}
use Rattle.spines.proofs.CellLaws.{row_length}
use Rattle.reading.specs.Notices.{placed}
use Rattle.reading.specs.Bars.{is_kern_spine, deciding, deciding_or}
use Rattle.bars.specs.Bars.{filled_bars, deciding_in, deciding_of}

-- ---- offsets don't matter
placed_in : (o : List ℕ) (at : ℕ) (row : List Spine) (ts : List (List ℕ)) → deciding_or o row (placed at ts) ≡ deciding_in o row ts
unfolding placed deciding_or deciding_in
placed_in o at [] ts = refl
placed_in o at (s ∷ row) [] = refl
placed_in o at (s ∷ row) (t ∷ ts) = ap (λ (x : List ℕ). cond (is_kern_spine s) t x) (placed_in o (at + length t + 1) row ts)

-- ---- the tokens that are filled in are the first one

either : (b : Bool) (o : List ℕ) → cond b o o ≡ o
either true o = refl
either false o = refl

all_filled : (o : List ℕ) (row : List Spine) (k : ℕ) → deciding_in o row (replicate k o) ≡ o
unfolding deciding_in
all_filled o [] k = refl
all_filled o (s ∷ row) zero = refl
all_filled o (s ∷ row) (suc k) = ap (λ (x : List ℕ). cond (is_kern_spine s) o x) (all_filled o row k) ∙ either (is_kern_spine s) o

some_filled : (o : List ℕ) (row : List Spine) (ts : List (List ℕ)) (k : ℕ)
    → deciding_in o row (take (length row) ts ++ replicate k o) ≡ deciding_in o row ts
unfolding deciding_in
some_filled o [] ts k = refl
some_filled o (s ∷ row) [] k = all_filled o (s ∷ row) k
some_filled o (s ∷ row) (t ∷ ts) k = ap (λ (x : List ℕ). cond (is_kern_spine s) t x) (some_filled o row ts k)

pub deciding_filled : (at : ℕ) (row : List Spine) (t : List ℕ) (ts : List (List ℕ))
    → deciding row (placed at (filled_bars (length row) (t ∷ ts))) ≡ deciding_of row (t ∷ ts)
unfolding deciding placed filled_bars deciding_of head_d
deciding_filled at [] t ts = ap (λ (k : ℕ). deciding [] (placed at (replicate k t))) (none (length ts))
  where
    none : (k : ℕ) → 0 - suc k ≡ 0
    none k = omega arith
deciding_filled at (s ∷ row) t ts = placed_in t at (s ∷ row) (take (suc (length row)) (t ∷ ts) ++ replicate (suc (length row) - suc (length ts)) t)
    ∙ some_filled t (s ∷ row) (t ∷ ts) (suc (length row) - suc (length ts))

-- a line has a token
pub deciding_line : (at : ℕ) (cells s : List ℕ)
    → deciding (row_of cells) (placed at (filled_bars (length cells) (tokens_of s))) ≡ deciding_of (row_of cells) (tokens_of s)
deciding_line at cells s =
    ap (λ (n : ℕ). deciding (row_of cells) (placed at (filled_bars n (split 9 s)))) (sym (row_length cells))
    ∙ ap (λ (ts : List (List ℕ)). deciding (row_of cells) (placed at (filled_bars (length (row_of cells)) ts))) (first_piece 9 s)
    ∙ deciding_filled at (row_of cells) _ _
    ∙ ap (deciding_of (row_of cells)) (sym (first_piece 9 s))

-- ---- the first column whose spine is kern
abbrev pub in_kern : ℕ × List ℕ → Bool
in_kern column = is_kern_spine (spine_of column.0)

-- the token that was found, or another
abbrev pub found_or : List ℕ → Option (ℕ × List ℕ) → List ℕ
found_or o None = o
found_or o (Some column) = column.1

found_more : (o : List ℕ) (b : Bool) (column : ℕ × List ℕ) (found : Option (ℕ × List ℕ)) {rest : List ℕ} → found_or o found ≡ rest → found_or o (cond b (Some column) found) ≡ cond b column.1 rest
found_more o true column found e = refl
found_more o false column found e = e

found_in : (o : List ℕ) (cells : List ℕ) (ts : List (List ℕ)) → found_or o (find in_kern (zip cells ts)) ≡ deciding_in o (row_of cells) ts
unfolding deciding_in row_of
found_in o [] ts = refl
found_in o (c ∷ cells) [] = refl
found_in o (c ∷ cells) (t ∷ ts) = found_more o (is_kern_spine (spine_of c)) (c, t) _ (found_in o cells ts)

of_some : (row : List Spine) (ts : List (List ℕ)) → 0 < length row → deciding_of row ts ≡ deciding_in (first_of ts) row ts
unfolding deciding_of
of_some [] ts h = absurd (not-suc-le-zero h)
of_some (s ∷ row) ts h = refl

first_token : (s : List ℕ) (first : ℕ) → first ≡ piece_end 9 s 0 → piece_at s 0 first ≡ first_of (tokens_of s)
unfolding head_d
first_token s first e =
    let p : Piece 9 s 0 first = piece_at_lem (omega arith) e in
    let z : first - 0 ≡ first = omega arith in
    sym (ap first_of (sym (all_pieces 9 s) ∙ p.here) ∙ ap (λ (k : ℕ). take k s) z)

pub deciding_empty : (s cells : List ℕ) → length cells ≡ 0 → piece_at s 0 0 ≡ deciding_of (row_of cells) (tokens_of s)
unfolding deciding_of row_of
deciding_empty s [] e = refl
deciding_empty s (c ∷ cells) e = absurd (not-suc-le-zero {n = 0} (omega arith))

module _ (s cells : List ℕ) {first : ℕ} (some : length cells ≡ 0 → ⊥) (e : first ≡ piece_end 9 s 0) (found : Option (ℕ × List ℕ)) (is : found ≡ find in_kern (zip cells (tokens_of s))) where
  deciding_by : found_or (piece_at s 0 first) found ≡ deciding_of (row_of cells) (tokens_of s)
  deciding_by =
      ap₂ found_or (first_token s first e) is
      ∙ found_in (first_of (tokens_of s)) cells (tokens_of s)
      ∙ sym (of_some (row_of cells) (tokens_of s) (omega (arith, row_length cells)))

  pub deciding_found : (column : ℕ × List ℕ) → found ≡ Some column → column.1 ≡ deciding_of (row_of cells) (tokens_of s)
  deciding_found column q = ap (found_or (piece_at s 0 first)) (sym q) ∙ deciding_by

  pub deciding_none : found ≡ None → piece_at s 0 first ≡ deciding_of (row_of cells) (tokens_of s)
  deciding_none q = ap (found_or (piece_at s 0 first)) (sym q) ∙ deciding_by
