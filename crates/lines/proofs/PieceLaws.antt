-- The pieces of a text: by the index at which each ends, and by offset and length.
use mathlib.Core.Path.{◌≡◌, sym}
use Prim.Native.Nat.{ℕ, ◌+◌, ◌-◌, ◌≤◌, ◌<◌}
use native.Mathlib.Nat.{add-zero}
use native.Mathlib.Omega.{arith}
use mathlib.Core.List.{List, [], ◌∷◌}
use lib.ListN.{length, take, drop, length-drop, drop_of_length-le}
use Rattle.slices.specs.Split.{pieces}
use Rattle.slices.proofs.SplitLaws.{index_inside, next_piece, index_none}
use Rattle.lines.specs.Lines.{piece_end}

-- the piece from `from` to e, and the pieces behind it
pub record Piece (b : ℕ) (s : List ℕ) (from e : ℕ) : Type 0 where
  pub low : from ≤ e
  pub high : e ≤ length s
  pub here : pieces b from s ≡ take (e - from) (drop from s) ∷ pieces b (e + 1) s

-- a loop over the pieces: the one that begins at `from`
pub piece_at_lem : {b : ℕ} {s : List ℕ} {from e : ℕ} → from ≤ length s → e ≡ piece_end b s from → Piece b s from e
piece_at_lem {b} {s} {from} {e} h at = record {
  low = omega arith;
  high = omega (arith, index_inside b (drop from s), length-drop from s);
  here = next_piece b from e s h at;
}

pub end_past : (b : ℕ) (s : List ℕ) (from : ℕ) → length s < from → from ≡ piece_end b s from
end_past b s from h =
    let none : drop from s ≡ [] = drop_of_length-le s {i = from} (omega arith) in
    sym (rw (none, index_none b, add-zero from))

-- where the token that begins at `from` ends
pub end_low : (s : List ℕ) (from e : ℕ) → from ≤ length s → e ≡ piece_end 9 s from → (from ≤ e) × (e ≤ length s)
end_low s from e h at = let p : Piece 9 s from e = piece_at_lem h at in (p.low, p.high)
