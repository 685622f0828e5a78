-- Reference records and the header keep the state good.
use mathlib.Core.Path.{◌≡◌, refl}
use mathlib.Core.Bool.{Bool, true, false, cond, not}
use mathlib.Core.List.{List, [], ◌∷◌, map}
use Prim.Native.Nat.{ℕ, suc, ◌+◌, ◌≤◌}
use native.Mathlib.Omega.{arith}
use lib.Dec.{ltb}
use lib.ListN.{length, drop, length-drop, length-map}
use borrow.Author.Tests.{ltb-false}
use Rattle.slices.proofs.TotalLaws.{split_total}
use Rattle.sheet.specs.Fits.{All, U8, U32, SpanFits}
use Rattle.sheet.specs.declared.Span.{Span}
use Rattle.lines.specs.Tokens.{tokens_of, is_kern, is_exclusive}
use Rattle.reference.specs.Reference.{reference_of}
use Rattle.reference.specs.declared.Key.{Key}
use Rattle.reference.specs.declared.Key.TheVariants.{Title, Composer, Lyricist, Other}
use Rattle.reference.proofs.ReferenceLaws.{key_inside, value_inside}
use Rattle.paths.specs.Text.{header_row}
use Rattle.repair.specs.Repair.{each}
use Rattle.reading.specs.State.{State, refused, goes, with_row, with_parts}
use Rattle.reading.specs.Notices.{Token, placed, span_of_token, after, notify}
use Rattle.reading.specs.Header.{key_span, value_span, by_key, read_reference, notice_others, fresh_parts, any_kern, read_header}
use Rattle.fits.proofs.Cuts.{TokenFits, split_bytes, placed_fit, placed_length}
use Rattle.fits.proofs.Rows.{header_fits}
use Rattle.fits.proofs.Good.{Good, Fine, FineStep, refuses, going, PartGood, span_fits, token_span, fresh_good, fine_quiet, fine_after, fine_keep, plain_notice, fine_notify}
use Rattle.paths.proofs.TextLaws.{header_length}

-- ---- references

by_key_lem : {n : ℕ} (key : Key) (k : ℕ) (value name : Span) (st : State) → U32 k → SpanFits value → SpanFits name → Good n st → Fine n (by_key key k value name st)
by_key_lem Title k value name st l v w g = fine_quiet (record {
  row = g.row;
  parts = g.parts;
  bars = g.bars;
  tempo = g.tempo;
  title = v;
  composer = g.composer;
  lyricist = g.lyricist;
})
by_key_lem Composer k value name st l v w g = fine_quiet (record {
  row = g.row;
  parts = g.parts;
  bars = g.bars;
  tempo = g.tempo;
  title = g.title;
  composer = v;
  lyricist = g.lyricist;
})
by_key_lem Lyricist k value name st l v w g = fine_quiet (record {
  row = g.row;
  parts = g.parts;
  bars = g.bars;
  tempo = g.tempo;
  title = g.title;
  composer = g.composer;
  lyricist = v;
})
by_key_lem Other k value name st l v w g = fine_keep _ [] (plain_notice 1 0 k value name (omega arith, refl) (omega arith) l v w) g

pub fine_reference : {n : ℕ} (k at : ℕ) (line : List ℕ) (st : State) → U32 k → at + length line ≤ 67108864 → Good n st → Fine n (read_reference k at line st)
unfolding read_reference
fine_reference k at line st l h g =
    let r = reference_of (drop 3 line) in
    by_key_lem r.key k (value_span (at + 3) r) (key_span (at + 3) r) st l
    (span_fits (at + 3 + r.value_span.at) r.value_span.len (omega (arith, value_inside (drop 3 line), length-drop 3 line)) (omega (arith, value_inside (drop 3 line), length-drop 3 line)))
    (span_fits (at + 3 + r.key_span.at) r.key_span.len (omega (arith, key_inside (drop 3 line), length-drop 3 line)) (omega (arith, key_inside (drop 3 line), length-drop 3 line)))
    g

-- ---- the header

fine_others : {n : ℕ} (k j : ℕ) (ts : List Token) (st : State) → U32 k → j + length ts ≤ 1000 → All TokenFits ts → Good n st → Fine n (notice_others k j ts st)
unfolding notice_others
fine_others k j [] st l h f g = fine_quiet g
fine_others {n} k j (t ∷ ts) st l h f g =
    go (is_kern t.bytes) (λ s. fine_others k (suc j) ts s l (omega arith) f.1)
  where
    go : (b : Bool) → ((s : State) → Good n s → Fine n (notice_others k (suc j) ts s))
        → Fine n (cond b (notice_others k (suc j) ts st) (after (notify 2 k j (span_of_token t) st) (notice_others k (suc j) ts)))
    go true ih = ih st g
    go false ih = fine_after (notice_others k (suc j) ts) (fine_notify 2 k j (span_of_token t) (omega arith, refl) l (omega arith) (token_span f.0) g) ih

fresh_parts_lem : (p : ℕ) (ks : List Bool) → p + length ks ≤ 256 → All PartGood (fresh_parts p ks)
unfolding fresh_parts
fresh_parts_lem p [] h = tt
fresh_parts_lem p (true ∷ ks) h = (fresh_good p (omega arith), fresh_parts_lem (suc p) ks (omega arith))
fresh_parts_lem p (false ∷ ks) h = fresh_parts_lem p ks (omega arith)

pub fine_header : {n : ℕ} (k at : ℕ) (line : List ℕ) (st : State) → U32 k → at + length line ≤ 67108864 → All U8 line → Good n st
    → FineStep n (read_header k at line st)
unfolding read_header
fine_header {n} k at line st l h b g =
    go (not (each is_exclusive (tokens_of line))) (ltb 256 (length (tokens_of line))) (not (any_kern (map is_kern (tokens_of line)))) refl
  where
    go : (x y z : Bool) → ltb 256 (length (tokens_of line)) ≡ y
        → FineStep n
        (cond x (refused 3 k 0)
        (cond y (refused 4 k (length (tokens_of line)))
        (cond z (refused 5 k 0)
        (goes (notice_others k 1 (placed at (tokens_of line)) (with_parts (with_row st (header_row (map is_kern (tokens_of line)))) (fresh_parts 0 (map is_kern (tokens_of line)))))))))
    go true y z e = refuses
    go false true z e = refuses
    go false false true e = refuses
    go false false false e =
        let few : length (tokens_of line) ≤ 256 = ltb-false 256 (length (tokens_of line)) e in
        let same : length (map is_kern (tokens_of line)) ≡ length (tokens_of line) = length-map (tokens_of line) is_kern in
        going
        (fine_others k 1 (placed at (tokens_of line)) (with_parts (with_row st (header_row (map is_kern (tokens_of line)))) (fresh_parts 0 (map is_kern (tokens_of line)))) l (omega (arith, placed_length at (tokens_of line)))
        (placed_fit at (tokens_of line) (omega (arith, split_total 9 line)) (split_bytes 9 line b))
        (record {
          row = record {
            spines = header_fits 0 (map is_kern (tokens_of line)) (omega arith);
            few = omega (arith, header_length 0 (map is_kern (tokens_of line)));
          };
          parts = fresh_parts_lem 0 (map is_kern (tokens_of line)) (omega arith);
          bars = g.bars;
          tempo = g.tempo;
          title = g.title;
          composer = g.composer;
          lyricist = g.lyricist;
        }))
