-- What a bare column gets from its record: only as many tokens count as there are spines.
use mathlib.Core.Path.{◌≡◌, refl, sym, ap, ap₂, ◌∙◌}
use Prim.Native.Nat.{ℕ, zero, suc, ◌+◌, ◌-◌, ◌/◌, ◌%◌, ◌≤◌, ◌<◌}
use native.Mathlib.Nat.{not-suc-le-zero, le_of_suc-le-suc}
use native.Mathlib.Omega.{arith}
use mathlib.Core.List.{List, [], ◌∷◌, map}
use mathlib.Core.Bool.{Bool, true, false, cond, not, ◌&&◌}
use lib.Dec.{eqb, ltb, leb}
use lib.ListN.{length, take, get_or}
use borrow.Author.Tests.{leb-true, leb-false, ltb-true, ltb-false}
use Rattle.lines.specs.Tokens.{tokens_of}
use Rattle.duration.specs.Ratio.{spelled_value}
use Rattle.duration.specs.declared.Value.{Value}
use Rattle.std.specs.Prelude.{Option}
use Rattle.paths.specs.declared.Spine.TheVariants.{Line}
use Rattle.peers.specs.Peers.{is_bare, peers_from, uniform, peer_reciprocal, kern_cells}
use Rattle.peers.proofs.SummaryLaws.{bare_column}
use Rattle.peers.proofs.OfferLaws.{no_value}
use Rattle.spines.specs.Cells.{spine_of, row_of}
use Rattle.spines.proofs.CellLaws.{cell_outside, cell_line, cell_branch}
use Rattle.reading.specs.Bars.{is_kern_spine}
use Rattle.reading.specs.Notes.{inferred_for}
use Rattle.data.specs.declared.Column.{Column}
use Rattle.data.specs.Column.{token_in, Entered}
use Rattle.data.specs.Agreed.{agreed_in, inferred_by}

-- a cell below 8 is a spine outside kern
kern_cell : (c : ℕ) → is_kern_spine (spine_of c) ≡ leb 8 c
kern_cell c = go (leb 8 c) (ltb (c % 8) 4) refl refl
  where
    go : (t v : Bool) → leb 8 c ≡ t → ltb (c % 8) 4 ≡ v → is_kern_spine (spine_of c) ≡ t
    go true true e f =
        let h : 8 ≤ c = leb-true 8 c e in
        let q : c / 8 ≡ (c / 8 - 1) + 1 = omega arith in
        ap is_kern_spine (cell_line c (c / 8 - 1) q (ltb-true (c % 8) 4 f))
    go true false e f =
        let h : 8 ≤ c = leb-true 8 c e in
        let q : c / 8 ≡ (c / 8 - 1) + 1 = omega arith in
        ap is_kern_spine (cell_branch c (c / 8 - 1) q (ltb-false (c % 8) 4 f))
    go false v e f =
        let h : c < 8 = leb-false 8 c e in
        ap is_kern_spine (cell_outside c (omega arith))

kern_row : (cells : List ℕ) → map is_kern_spine (row_of cells) ≡ kern_cells cells
unfolding row_of kern_cells
kern_row [] = refl
kern_row (c ∷ cs) = ap₂ (λ (b : Bool) (bs : List Bool). b ∷ bs) (kern_cell c) (kern_row cs)

peers_few : (i column : ℕ) (ts : List (List ℕ)) (cells : List ℕ)
    → peers_from i column (take (length cells) ts) (kern_cells cells) ≡ peers_from i column ts (kern_cells cells)
unfolding peers_from kern_cells
peers_few i column [] [] = refl
peers_few i column [] (c ∷ cs) = refl
peers_few i column (t ∷ ts) [] = refl
peers_few i column (t ∷ ts) (c ∷ cs) =
    ap (λ (ps : List (List ℕ)). cond (leb 8 c && not (eqb i column)) (t ∷ ps) ps) (peers_few (suc i) column ts cs)

kern_at : (cells : List ℕ) (i : ℕ) → i < length cells → get_or (kern_cells cells) i false ≡ leb 8 (get_or cells i 0)
unfolding kern_cells
kern_at [] i h = absurd (not-suc-le-zero h)
kern_at (c ∷ cs) zero h = refl
kern_at (c ∷ cs) (suc i) h = kern_at cs i (le_of_suc-le-suc h)

-- what a bare column of a record gets is what its neighbours offer it
module _ (offset : ℕ) (line row : List ℕ) (c : Column) (e : Entered line row c) {p v : ℕ} (is : spine_of (get_or row c.index 0) ≡ Line p v) where
  gets : is_bare (token_in offset line c).bytes ≡ true
      → agreed_in line row ≡ spelled_value (peer_reciprocal (take (length row) (tokens_of line)) (map is_kern_spine (row_of row)) c.index)
  gets b =
      let kern : leb 8 (get_or row c.index 0) ≡ true = sym (kern_cell (get_or row c.index 0)) ∙ ap is_kern_spine is in
      ap spelled_value (bare_column (tokens_of line) (kern_cells row) c.index (kern_at row c.index e.inside ∙ kern) (ap is_bare e.here ∙ b)
      ∙ ap uniform (sym (peers_few 0 c.index (tokens_of line) row) ∙ ap (peers_from 0 c.index (take (length row) (tokens_of line))) (sym (kern_row row))))

  pub infers : {value : Option Value} → value ≡ inferred_by (is_bare (token_in offset line c).bytes) line row
      → value ≡ spelled_value (inferred_for (take (length row) (tokens_of line)) (map is_kern_spine (row_of row)) c.index (token_in offset line c).bytes)
  unfolding inferred_for
  infers {value} q = go (is_bare (token_in offset line c).bytes) refl q
    where
      go : (b : Bool) → is_bare (token_in offset line c).bytes ≡ b → value ≡ inferred_by b line row
          → value ≡ spelled_value (cond b (peer_reciprocal (take (length row) (tokens_of line)) (map is_kern_spine (row_of row)) c.index) [])
      go true b r = r ∙ gets b
      go false b r = r ∙ sym no_value
