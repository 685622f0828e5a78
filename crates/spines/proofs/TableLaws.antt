-- The table of active spines: its cells, what it says of a row, and its columns.
use mathlib.Core.Path.{◌≡◌, refl, ap, ap₂, sym, ◌∙◌}
use Prim.Native.Nat.{ℕ, zero, suc, ◌+◌, ◌*◌, ◌%◌, ◌<◌}
use native.Mathlib.Numerals.{add-one}
use native.Mathlib.Omega.{arith}
use mathlib.Core.List.{List, [], ◌∷◌, ◌++◌, map}
use lib.ListN.{length, get_or, take, drop, set, length-map}
use lib.Seq.{take-suc-set, drop-cons}
use Rattle.std.proofs.Common.{Option, Some, None, IfSome}
use Rattle.slices.proofs.TestLaws.{clash}
use Rattle.paths.specs.declared.Spine.{Spine}
use Rattle.paths.specs.declared.Spine.TheVariants.{Line, Branch, Outside}
use Rattle.spines.specs.Cells.{spine_of, row_of}
use Rattle.spines.specs.declared.active.Line.{Line as ActiveLine}
use Rattle.spines.specs.Table.{active_at, active_spine, active_row, line_of, cell_of, cells_of}
use Rattle.spines.proofs.CellLaws.{cell_outside, cell_line, of_line, row_take}

pub cells_length : (l : List (Option ActiveLine)) → length (cells_of l) ≡ length l
unfolding cells_of
cells_length l = length-map l cell_of

pub cells_set : (l : List (Option ActiveLine)) (i : ℕ) (a : Option ActiveLine) → cells_of (set l i a) ≡ set (cells_of l) i (cell_of a)
unfolding cells_of
cells_set [] i a = refl
cells_set (x ∷ l) zero a = refl
cells_set (x ∷ l) (suc i) a = ap (λ (r : List ℕ). cell_of x ∷ r) (cells_set l i a)

-- ---- a cell's line, and a line's cell

pub cell_says : (a : Option ActiveLine) → IfSome a (λ l. l.voice < 4) → spine_of (cell_of a) ≡ active_spine a
unfolding cell_of
cell_says None h = cell_outside 0 refl
cell_says (Some a) h =
    let v : ((a.part + 1) * 8 + a.voice) % 8 ≡ a.voice = omega (arith, h) in
    cell_line ((a.part + 1) * 8 + a.voice) a.part (omega (arith, h)) (omega (arith, h)) ∙ ap (Line a.part) v

-- part and voice of a cell of 16 bits
pub line_bounds : (c : ℕ) {p v : ℕ} → c < 65536 → spine_of c ≡ Line p v → (p < 8191) × (v < 4)
line_bounds c h e = let o = of_line c e in (omega (arith, o.part), o.low)

-- ---- the table of a row

pub active_length : (l : List (Option ActiveLine)) → length (active_row l) ≡ length l
unfolding active_row
active_length l = length-map l active_spine

active_append : (s t : List (Option ActiveLine)) → active_row (s ++ t) ≡ active_row s ++ active_row t
unfolding active_row
active_append [] t = refl
active_append (x ∷ s) t = ap (λ (r : List Spine). active_spine x ∷ r) (active_append s t)

lines_append : (s t : List Spine) → map line_of (s ++ t) ≡ map line_of s ++ map line_of t
lines_append [] t = refl
lines_append (x ∷ s) t = ap (λ (r : List Spine). line_of x ∷ r) (lines_append s t)

-- the first i entries are those of the first i cells
abbrev pub Filled : List ℕ → List (Option ActiveLine) → ℕ → Type 0
Filled row spines i = active_row (take i spines) ≡ map line_of (row_of (take i row))

pub filled_first : (row : List ℕ) (spines : List (Option ActiveLine)) → Filled row spines 0
unfolding active_row row_of
filled_first row spines = refl

pub filled_turn : (row : List ℕ) (spines : List (Option ActiveLine)) {i : ℕ} (a : Option ActiveLine) → Filled row spines i → i < length row → length spines ≡ length row
    → active_spine a ≡ line_of (spine_of (get_or row i 0)) → Filled row (set spines i a) (i + 1)
unfolding active_row
filled_turn row spines {i} a inv h same e =
    ap active_row (ap (λ (k : ℕ). take k (set spines i a)) (add-one i) ∙ take-suc-set spines i a (omega arith))
    ∙ active_append (take i spines) (a ∷ [])
    ∙ ap₂ (λ (r : List Spine) (s : Spine). r ++ (s ∷ [])) inv e
    ∙ sym (ap (map line_of) (row_take row i h) ∙ lines_append (row_of (take i row)) (spine_of (get_or row i 0) ∷ []))

-- a column of the table
pub active_drop : (l : List (Option ActiveLine)) (i : ℕ) → i < length l → active_row (drop i l) ≡ active_spine (active_at l i) ∷ active_row (drop (i + 1) l)
unfolding active_row
active_drop l i h = ap active_row (drop-cons l i _ h) ∙ ap (λ (k : ℕ). active_spine (active_at l i) ∷ active_row (drop k l)) (sym (add-one i))

-- each voice of a row's table is one of a line's four, so that `cell_says` holds of each entry
voice_low : (c : ℕ) (s : Spine) {p v : ℕ} → spine_of c ≡ s → Line p v ≡ line_of s → v < 4
voice_low c (Line q w) {p} {v} e h = let o = of_line c e in let same : v ≡ w = cc in omega (arith, o.low, same)
voice_low c (Branch q) e h = clash cc
voice_low c Outside e h = clash cc

pub table_low : (l : List (Option ActiveLine)) (row : List ℕ) (i : ℕ) → active_row l ≡ map line_of (row_of row) → IfSome (active_at l i) (λ a. a.voice < 4)
unfolding active_row row_of
table_low [] row i e = tt
table_low (x ∷ l) [] i e = clash cc
table_low (None ∷ l) (c ∷ row) zero e = tt
table_low (Some a ∷ l) (c ∷ row) zero e = voice_low c (spine_of c) {p = a.part} {v = a.voice} refl cc
table_low (x ∷ l) (c ∷ row) (suc i) e = table_low l row i cc
