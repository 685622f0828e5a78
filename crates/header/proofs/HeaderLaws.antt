-- A reference record and a header line, as they land.
use Rattle.std.specs.Prelude.{Ok}
use mathlib.Core.Path.{◌≡◌, refl, sym, ap, ap₂, ◌∙◌}
use Prim.Native.Nat.{ℕ, ◌+◌, ◌≤◌, ◌<◌}
use mathlib.Core.Bool.{Bool, true, false}
use mathlib.Core.List.{List, [], map}
use lib.ListN.{length, take, drop}
use borrow.Author.Tests.{lt-ltb, le-ltb}
use Rattle.state.specs.Counts.{Same}
use Rattle.lines.specs.Tokens.{tokens_of, is_kern, is_exclusive}
use Rattle.reference.specs.Reference.{reference_of}
use Rattle.reference.specs.declared.Reference.{Reference}
use Rattle.reference.specs.declared.Key.{Key}
use Rattle.reference.specs.declared.Key.TheVariants.{Title, Composer, Lyricist, Other}
use Rattle.paths.specs.declared.Spine.{Spine}
use Rattle.paths.specs.Text.{header_row}
use Rattle.repair.specs.Repair.{each}
use Rattle.spines.specs.Cells.{row_of}
use Rattle.sheet.specs.Record.{span_of}
use Rattle.sheet.specs.declared.Span.{Span}
use Rattle.reading.specs.State.{State, Result, Step, goes, with_row, with_parts, with_title, with_composer, with_lyricist}
use Rattle.reading.specs.declared.Part.{Part}
use Rattle.reading.specs.Notices.{placed, quiet, keep}
use Rattle.reading.specs.Header.{by_key, key_span, value_span, read_reference, notice_others, fresh_parts, read_header}
use Rattle.state.specs.Lay.{laid, behind}
use Rattle.state.specs.View.{state_of, Landed, stopped, going, landed, told}
use Rattle.state.specs.declared.Tally.{Tally}
use Rattle.writing.specs.Kept.{kept_records, after_kept}
use Rattle.writing.proofs.KeptLaws.{kept_told}
use Rattle.header.proofs.ColumnLaws.{any_none, any_some}

-- ---- reference records

-- what it comes to, by its key
module _ (s t : List ℕ) (r : Reference) (k offset : ℕ) (u : Tally) (cut : t ≡ drop 3 s) (is : r ≡ reference_of t) (value : Span)
    (there : value ≡ span_of (offset + 3 + r.value_span.at) r.value_span.len) where
  by_key_lem : (x : Key) → r.key ≡ x → (st : State) → read_reference k offset s st ≡ by_key x k value (key_span (offset + 3) r) st
  unfolding read_reference
  by_key_lem x e st =
      ap (λ (q : Reference). by_key q.key k (value_span (offset + 3) q) (key_span (offset + 3) q) st) (sym (is ∙ ap reference_of cut))
      ∙ ap₂ (λ (y : Key) (v : Span). by_key y k v (key_span (offset + 3) r) st) e (sym there)

  module _ (cells : List ℕ) (parts : List Part) (out : List ℕ) where
    abbrev result : Landed
    result = landed (goes (read_reference k offset s (state_of cells parts u))) out u.at

    silent : (st : State) → read_reference k offset s (state_of cells parts u) ≡ quiet st → going st u.at out ≡ result
    unfolding laid behind
    silent st e = ap (λ (q : Result). landed (goes q) out u.at) (sym e)

    pub title_told : r.key ≡ Title → going (with_title (state_of cells parts u) value) u.at out ≡ result
    title_told e = silent (with_title (state_of cells parts u) value) (by_key_lem Title e (state_of cells parts u))

    pub composer_told : r.key ≡ Composer → going (with_composer (state_of cells parts u) value) u.at out ≡ result
    composer_told e = silent (with_composer (state_of cells parts u) value) (by_key_lem Composer e (state_of cells parts u))

    pub lyricist_told : r.key ≡ Lyricist → going (with_lyricist (state_of cells parts u) value) u.at out ≡ result
    lyricist_told e = silent (with_lyricist (state_of cells parts u) value) (by_key_lem Lyricist e (state_of cells parts u))

    pub other_key_told : (name : Span) → name ≡ span_of (offset + 3 + r.key_span.at) r.key_span.len → r.key ≡ Other → (v : Tally) (last : List ℕ)
        → (last ≡ laid out u.at (kept_records u (record { number = 1; column = 0; line = k; value = value; key = name }) []))
        × (v ≡ after_kept u (record { number = 1; column = 0; line = k; value = value; key = name }) []) → told (Ok v) cells parts last ≡ result
    other_key_told name n e v last w =
        ap₂ (λ (x : Tally) (y : List ℕ). told (Ok x) cells parts y) w.1 w.0
        ∙ kept_told cells parts u (record { number = 1; column = 0; line = k; value = value; key = name }) [] out
        ∙ ap (λ (y : Span). landed (goes (keep (record { number = 1; column = 0; line = k; value = value; key = y }) [] (state_of cells parts u))) out u.at) n
        ∙ ap (λ (q : Result). landed (goes q) out u.at) (sym (by_key_lem Other e (state_of cells parts u)))

-- ---- the header, question by question
module _ (s : List ℕ) (k offset : ℕ) (st : State) (out : List ℕ) (at : ℕ) where
  pub stops_3 : false ≡ each is_exclusive (tokens_of s) → stopped 3 k 0 ≡ landed (read_header k offset s st) out at
  unfolding read_header
  stops_3 a = rw (← a) refl

  module _ (a : true ≡ each is_exclusive (tokens_of s)) where
    pub stops_4 : {n : ℕ} → n ≡ length (tokens_of s) → 256 < n → stopped 4 k n ≡ landed (read_header k offset s st) out at
    unfolding read_header
    stops_4 {n} e h = rw (← a, ← e, lt-ltb 256 n h) refl

    module _ (n : ℕ) (e : n ≡ length (tokens_of s)) (few : n ≤ 256) (m : ℕ) (kerns : m ≡ length (fresh_parts 0 (map is_kern (tokens_of s)))) where
      pub stops_5 : m ≡ 0 → stopped 5 k 0 ≡ landed (read_header k offset s st) out at
      unfolding read_header
      stops_5 z = rw (← a, ← e, le-ltb 256 n few, any_none 0 (map is_kern (tokens_of s)) (sym kerns ∙ z)) refl

      begins : (m ≡ 0 → ⊥) → read_header k offset s st
          ≡ goes (notice_others k 1 (placed offset (tokens_of s)) (with_parts (with_row st (header_row (map is_kern (tokens_of s)))) (fresh_parts 0 (map is_kern (tokens_of s)))))
      unfolding read_header
      begins z = rw (← a, ← e, le-ltb 256 n few, any_some 0 (map is_kern (tokens_of s)) (λ y. z (kerns ∙ y))) refl

-- the row is filled and the parts are fresh
abbrev begun : Tally → ℕ → ℕ → Tally
begun t n m = record {
  active = n;
  parts = m;
  bars = t.bars;
  notes = t.notes;
  notices = t.notices;
  tempo = t.tempo;
  title = t.title;
  composer = t.composer;
  lyricist = t.lyricist;
  at = t.at;
}

module _ (s : List ℕ) (k offset : ℕ) (t : Tally) (row : List ℕ) (parts : List Part) (out : List ℕ) (n m : ℕ) (a : true ≡ each is_exclusive (tokens_of s))
    (e : n ≡ length (tokens_of s)) (few : n ≤ 256)
    (filled : (row_of (take (length (tokens_of s)) row) ≡ header_row (map is_kern (tokens_of s))) × ((m ≡ length (fresh_parts 0 (map is_kern (tokens_of s)))) × (m ≤ 256)))
    (some-kern : m ≡ 0 → ⊥)
    (fresh : (ks : List Bool) → m ≡ length (fresh_parts 0 ks) → take m parts ≡ fresh_parts 0 ks) where
  pub header_told : (r : Tally) (last : List ℕ)
      → Same (begun t n m) r × ((cells : List ℕ) (parts : List Part) → told (Ok r) cells parts last ≡ landed (goes (notice_others k 1 (placed offset (tokens_of s)) (state_of cells parts (begun t n m)))) out t.at)
      → (cells : List ℕ) (old : List Part) → going (state_of (take r.active row) parts r) r.at last ≡ landed (read_header k offset s (state_of cells old t)) out t.at
  header_told r last w cells old =
      let x : take r.active row ≡ take (length (tokens_of s)) row = ap (λ (i : ℕ). take i row) (w.0.active ∙ e) in
      let ks = map is_kern (tokens_of s) in
      let st = state_of cells old t in
      w.1 (take r.active row) parts
      ∙ ap₂ (λ (y : List Spine) (z : List Part). landed (goes (notice_others k 1 (placed offset (tokens_of s)) (with_parts (with_row st y) z))) out t.at)
      (ap row_of x ∙ filled.0) (fresh ks filled.1.0)
      ∙ ap (λ (y : Step). landed y out t.at) (sym (begins s k offset st out t.at a n e few m filled.1.0 some-kern))
