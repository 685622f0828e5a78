-- A record behind the header, and a line: what each branch of the code says is what the reading comes to.
use Rattle.std.proofs.Common.{Ok, Err}
use mathlib.Core.Path.{◌≡◌, sym, ap, ap₂, subst, ◌∙◌}
use Prim.Native.Nat.{ℕ, ◌≤◌}
use native.Mathlib.Omega.{arith}
use mathlib.Core.Bool.{Bool}
use mathlib.Core.List.{List, []}
use lib.ListN.{length, take}
use Rattle.state.specs.Counts.{Same}
use Rattle.lines.specs.Lines.{kind_of}
use Rattle.lines.specs.Tokens.{tokens_of}
use Rattle.lines.specs.declared.Kind.{Kind}
use Rattle.lines.specs.declared.Kind.TheVariants.{Empty, Reference, Comment, Star, Bar, Data}
use Rattle.paths.specs.Row.{spine_at}
use Rattle.paths.specs.declared.Spine.TheVariants.{Line as Line-of}
use Rattle.spines.specs.Cells.{row_of}
use Rattle.repair.specs.Repair.{repaired, Repaired, repaired_of}
use Rattle.repair.specs.declared.Repair.{Repair}
use Rattle.repair.specs.declared.Unrepaired.{Unrepaired}
use Rattle.repair.specs.declared.Unrepaired.TheVariants.{Uneven, Mixed}
use Rattle.sheet.specs.Record.{span_of}
use Rattle.reading.specs.State.{State, Step, goes}
use Rattle.reading.specs.declared.Part.{Part}
use Rattle.reading.specs.Notices.{placed, notify}
use Rattle.reading.specs.Header.{read_reference}
use Rattle.reading.specs.Records.{notice_repair, by_kind, by_repair, on_row, on_record, by_line, read_line}
use Rattle.state.specs.declared.Tally.{Tally}
use Rattle.std.specs.Prelude.{Ok, ◌⊎◌}
use Rattle.std.proofs.Common.{inl, inr}
use Rattle.state.specs.declared.Flow.TheVariants.{Ends}
use Rattle.state.specs.Lay.{laid}
use Rattle.state.specs.View.{state_of, Landed, stopped, ending, landed, told, told_flow}
use Rattle.writing.specs.Kept.{notice_of, kept_records, after_kept}
use Rattle.writing.proofs.KeptLaws.{kept_same, notify_told}
use Rattle.records.specs.Here.{Under}
use Rattle.records.proofs.OutcomeLaws.{landed_told, none_left, some_left, ends_told, quiet_told}

-- the same counts of spines, parts and bars
pub under_same : {row : List ℕ} {t u : Tally} → Same t u → Under row t → Under row u
under_same {row} {t} {u} s h = record {
  ready = record {
    cells_long = subst (λ (n : ℕ). length (take n row) ≤ 256) (sym s.active) h.ready.cells_long;
    parts_few = omega (arith, h.ready.parts_few, s.parts);
    bars_few = omega (arith, h.ready.bars_few, s.bars);
    within = λ (j p v : ℕ) e. omega (arith, s.parts, h.ready.within j p v (subst (λ (n : ℕ). spine_at (row_of (take n row)) j ≡ Line-of p v) s.active e));
  };
  long = subst (λ (n : ℕ). length (take n row) ≡ n) (sym s.active) h.long;
}

module _ (parts : List Part) {row : List ℕ} {t : Tally} (h : Under row t) (line out : List ℕ) (number offset : ℕ) where
  abbrev cells : List ℕ
  cells = take t.active row

  abbrev st : State
  st = state_of cells parts t

  -- with no active spine left
  pub none_told : (u : Tally) (out' : List ℕ) {len : ℕ} → t.active ≡ 0 → len ≡ length line
      → (out' ≡ laid out t.at (kept_records t (notice_of 3 number 0 (span_of offset len)) [])) × (u ≡ after_kept t (notice_of 3 number 0 (span_of offset len)) [])
      → told_flow (Ok (Ends u)) row parts out' ≡ landed (on_row (row_of cells) number offset line st) out t.at
  none_told u out' {len} z l w =
      let same : Same t u = subst (λ (x : Tally). Same t x) (sym w.1) (kept_same t (notice_of 3 number 0 (span_of offset len)) []) in
      let so : told (Ok u) cells parts out' ≡ landed (goes (notify 3 number 0 (span_of offset (length line)) st)) out t.at
      = ap₂ (λ (x : Tally) (o : List ℕ). told (Ok x) cells parts o) w.1 w.0
      ∙ notify_told cells parts t 3 number 0 (span_of offset len) out
      ∙ ap (λ (j : ℕ). landed (goes (notify 3 number 0 (span_of offset j) st)) out t.at) l in
      ap (λ (n : ℕ). ending (state_of (take n row) parts u) u.at out') same.active
      ∙ ends_told u cells parts out' (notify 3 number 0 (span_of offset (length line)) st) out t.at so
      ∙ ap (λ (x : Step). landed x out t.at) (sym (none_left cells line number offset st (h.long ∙ z)))

  -- with some, by the repair
  module _ (some_spine : t.active ≡ 0 → ⊥) {found : Repaired} (is_found : found ≡ repaired_of t.active (tokens_of line)) where
    by_found : on_row (row_of cells) number offset line st ≡ by_repair found number offset line (placed offset (repaired t.active (tokens_of line))) st
    by_found =
        some_left cells line t.active number offset st h.long (omega arith)
        ∙ ap (λ (x : Repaired). by_repair x number offset line (placed offset (repaired t.active (tokens_of line))) st) (sym is_found)

    pub uneven_told : {n : ℕ} {e : Unrepaired} → found ≡ Err e → e ≡ Uneven n
        → stopped 6 number n ≡ landed (on_row (row_of cells) number offset line st) out t.at
    uneven_told {n} {e} is kind =
        sym
        (ap (λ (x : Step). landed x out t.at)
        (by_found ∙ ap (λ (x : Repaired). by_repair x number offset line (placed offset (repaired t.active (tokens_of line))) st) (is ∙ ap Err kind)))

    pub mixed_told : {e : Unrepaired} → found ≡ Err e → e ≡ Mixed
        → stopped 7 number 0 ≡ landed (on_row (row_of cells) number offset line st) out t.at
    mixed_told {e} is kind =
        sym
        (ap (λ (x : Step). landed x out t.at)
        (by_found ∙ ap (λ (x : Repaired). by_repair x number offset line (placed offset (repaired t.active (tokens_of line))) st) (is ∙ ap Err kind)))

    pub even_told : {r : Repair} {kind : Kind} (u : Tally) (out' : List ℕ) (x : Landed) → found ≡ Ok r → kind ≡ kind_of line
        → ((cs : List ℕ) (ps : List Part) → told (Ok u) cs ps out' ≡ landed (goes (notice_repair r number offset line (state_of cs ps t))) out t.at) → Same t u
        → x ≡ landed (by_kind kind number (placed offset (repaired u.active (tokens_of line))) (state_of (take u.active row) parts u)) out' u.at
        → x ≡ landed (on_row (row_of cells) number offset line st) out t.at
    even_told {r} {kind} u out' x e k noticed same so =
        so
        ∙ ap (λ (n : ℕ). landed (by_kind kind number (placed offset (repaired n (tokens_of line))) (state_of (take n row) parts u)) out' u.at) same.active
        ∙ ap (λ (y : Kind). landed (by_kind y number (placed offset (repaired t.active (tokens_of line))) (state_of cells parts u)) out' u.at) k
        ∙ sym (landed_told u cells parts out' (notice_repair r number offset line st) (by_kind (kind_of line) number (placed offset (repaired t.active (tokens_of line)))) out t.at (noticed cells parts))
        ∙ sym
        (ap (λ (y : Step). landed y out t.at)
        (by_found ∙ ap (λ (y : Repaired). by_repair y number offset line (placed offset (repaired t.active (tokens_of line))) st) e))

-- ---- by the line's kind
module _ (begun : Bool) (x : Landed) (line out cells : List ℕ) (parts : List Part) (t : Tally) (number offset : ℕ) where
  module _ {kind : Kind} (is-kind : kind ≡ kind_of line) where
    by_kind_lem : (k : Kind) → kind ≡ k → read_line begun number offset line (state_of cells parts t) ≡ by_line k begun number offset line (state_of cells parts t)
    unfolding read_line
    by_kind_lem k e = ap (λ (y : Kind). by_line y begun number offset line (state_of cells parts t)) (sym is-kind ∙ e)

    -- a line that does nothing
    pub quiet_line : (kind ≡ Empty) ⊎ (kind ≡ Comment) → told (Ok t) cells parts out ≡ landed (read_line begun number offset line (state_of cells parts t)) out t.at
    quiet_line (inl e) = quiet_told t cells parts out ∙ sym (ap (λ (y : Step). landed y out t.at) (by_kind_lem Empty e))
    quiet_line (inr e) = quiet_told t cells parts out ∙ sym (ap (λ (y : Step). landed y out t.at) (by_kind_lem Comment e))

    pub reference_line : kind ≡ Reference → x ≡ landed (goes (read_reference number offset line (state_of cells parts t))) out t.at
        → x ≡ landed (read_line begun number offset line (state_of cells parts t)) out t.at
    reference_line e so = so ∙ sym (ap (λ (y : Step). landed y out t.at) (by_kind_lem Reference e))

    -- a record of whatever kind
    pub record_line : (kind ≡ Star) ⊎ ((kind ≡ Bar) ⊎ (kind ≡ Data)) → x ≡ landed (on_record begun number offset line (state_of cells parts t)) out t.at
        → x ≡ landed (read_line begun number offset line (state_of cells parts t)) out t.at
    record_line (inl e) so = so ∙ sym (ap (λ (y : Step). landed y out t.at) (by_kind_lem Star e))
    record_line (inr (inl e)) so = so ∙ sym (ap (λ (y : Step). landed y out t.at) (by_kind_lem Bar e))
    record_line (inr (inr e)) so = so ∙ sym (ap (λ (y : Step). landed y out t.at) (by_kind_lem Data e))
