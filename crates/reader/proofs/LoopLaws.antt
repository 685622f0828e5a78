-- The loop over a text's lines: what the whole text comes to is what the lines from here on come to.
use mathlib.Core.Path.{◌≡◌, refl, sym, ap, ap₂, subst, ◌∙◌}
use Prim.Native.Nat.{ℕ, ◌+◌, ◌-◌, ◌*◌, ◌≤◌, ◌<◌}
use native.Mathlib.Omega.{arith}
use mathlib.Core.Bool.{Bool, true, false, ◌||◌}
use mathlib.Core.List.{List}
use lib.ListN.{length, take, drop, length-drop, length-map, length-take}
use lib.Seq.{length-take-le}
use Rattle.slices.specs.Split.{pieces}
use Rattle.slices.proofs.SplitLaws.{no_piece, all_pieces}
use Rattle.slices.proofs.TestLaws.{clash}
use Rattle.lines.specs.Lines.{lines_of, without_crs, kind_of, piece_end}
use Rattle.lines.specs.declared.Kind.{Kind}
use Rattle.lines.specs.declared.Kind.TheVariants.{Empty, Reference, Comment, Star, Bar, Data}
use Rattle.lines.proofs.PieceLaws.{Piece, piece_at_lem}
use Rattle.place.specs.Taken.{Taken}
use Rattle.spines.specs.Cells.{row_of, spine_of}
use Rattle.reading.specs.State.{State, Result, Step, refused as refused-step, goes, ends, start}
use Rattle.reading.specs.declared.Part.{Part}
use Rattle.reading.specs.Records.{read_line, is_record}
use Rattle.state.specs.declared.Tally.{Tally}
use Rattle.std.specs.Prelude.{Ok, Err, Result as Answered}
use Rattle.refusal.specs.Numbers.{number_of, line_of, figure_of}
use Rattle.refusal.specs.declared.Refusal.{Refusal}
use Rattle.state.specs.declared.Flow.{Flow}
use Rattle.state.specs.declared.Flow.TheVariants.{Goes, Ends}
use Rattle.state.specs.View.{state_of, Landed, stopped, going, ending, landed, told_flow}
use Rattle.state.specs.Ready.{FewFlow, Steady}
use Rattle.extent.proofs.StateLaws.{Held, Holds, Passes, widen}
use Rattle.extent.proofs.RecordLaws.{line_holds}
use Rattle.extent.proofs.TextLaws.{start_holds}
use Rattle.records.specs.Here.{Under}
use Rattle.records.proofs.RecordLaws.{quiet_line}
use Rattle.std.proofs.Common.{inl, inr}
use Rattle.steady.proofs.LineLaws.{Firmly, start_firm, line_firm, firm_steady}
use Rattle.reader.specs.Told.{no_tally}
use Rattle.reader.specs.Landing.{is_passed, refused, finish_at, line_at, lines_at}

-- row, parts and buffer at the line that begins at `from`, behind so many lines
pub record Reading (text out₀ row : List ℕ) (parts : List Part) (out : List ℕ) (from number : ℕ) (begun : Bool) (t : Tally) : Type 0 where
  pub same : lines_at false 0 0 (lines_of text) start 0 out₀
      ≡ lines_at begun number from (pieces 10 from text) (state_of (take t.active row) parts t) t.at out
  pub firm : Firmly (state_of (take t.active row) parts t)
  pub holds : Holds 0 0 (state_of (take t.active row) parts t)
  pub out_long : length out ≡ length out₀
  pub parts_few : t.parts ≤ 256
  pub inside : from ≤ length text + 1
  pub counted : number ≤ from

pub reading_first : {text out row : List ℕ} {parts : List Part}
    → Reading text out row parts out 0 0 false no_tally
unfolding row_of
reading_first {text} {out} {row} {parts} = record {
  same = ap (λ (ls : List (List ℕ)). lines_at false 0 0 ls start 0 out) (sym (all_pieces 10 text));
  firm = start_firm;
  holds = widen (omega arith) (omega arith) start_holds;
  out_long = refl;
  parts_few = omega arith;
  inside = omega arith;
  counted = omega arith;
}

-- a step that goes on
goes_is : {st : State} {at : ℕ} {out : List ℕ} (s : Step) (old : List ℕ) (place : ℕ) → going st at out ≡ landed s old place → (r : Result) × (s ≡ goes r) × (r.state ≡ st)
goes_is (refused-step n l f) old place e = clash cc
goes_is (goes r) old place e = (r, refl, cc)
goes_is (ends r) old place e = clash cc

-- a step that ends the reading
ends_is : {st : State} {at : ℕ} {out : List ℕ} (s : Step) (old : List ℕ) (place : ℕ) → ending st at out ≡ landed s old place → (r : Result) × (s ≡ ends r) × (r.state ≡ st)
ends_is (refused-step n l f) old place e = clash cc
ends_is (goes r) old place e = clash cc
ends_is (ends r) old place e = (r, refl, cc)

-- the bytes aside
unpaid : {b n notes notices bars : ℕ} {parts : List Part} → Held b n notes notices bars parts → Held 0 0 notes notices bars parts
unpaid h = record {
  size = omega arith;
  notes_few = h.notes_few;
  notices_few = h.notices_few;
  parts_few = h.parts_few;
  closed = h.closed;
}

-- a line that does nothing leaves the counts and the buffer
passed_told : (begun : Bool) (number offset : ℕ) (line out row : List ℕ) (parts : List Part) (t : Tally) (kind : Kind) → kind ≡ kind_of line → is_passed kind ≡ true
    → told_flow (Ok (Goes t)) row parts out ≡ landed (read_line begun number offset line (state_of (take t.active row) parts t)) out t.at
passed_told begun number offset line out row parts t Empty k p = quiet_line begun (stopped 0 0 0) line out (take t.active row) parts t number offset k (inl refl)
passed_told begun number offset line out row parts t Reference k p = clash cc
passed_told begun number offset line out row parts t Comment k p = quiet_line begun (stopped 0 0 0) line out (take t.active row) parts t number offset k (inr refl)
passed_told begun number offset line out row parts t Star k p = clash cc
passed_told begun number offset line out row parts t Bar k p = clash cc
passed_told begun number offset line out row parts t Data k p = clash cc

-- and is no record
passed_begun : (begun : Bool) (kind : Kind) → is_passed kind ≡ true → begun ≡ (begun || is_record kind)
passed_begun true kind p = refl
passed_begun false Empty p = refl
passed_begun false Reference p = refl
passed_begun false Comment p = refl
passed_begun false Star p = clash cc
passed_begun false Bar p = clash cc
passed_begun false Data p = clash cc

module _ {text out₀ row : List ℕ} {parts : List Part} {out : List ℕ} {from number : ℕ} {begun : Bool} {t : Tally}
    (inv : Reading text out₀ row parts out from number begun t) where
  -- no line is left
  pub reading_past : length text < from
      → lines_at false 0 0 (lines_of text) start 0 out₀ ≡ finish_at begun (state_of (take t.active row) parts t) t.at out
  unfolding lines_at
  reading_past h = inv.same ∙ ap (λ (ls : List (List ℕ)). lines_at begun number from ls (state_of (take t.active row) parts t) t.at out) (no_piece 10 from text h)

  steady : Steady (state_of (take t.active row) parts t)
  steady = firm_steady (state_of (take t.active row) parts t) inv.holds inv.firm

  -- how many spines are active
  active_few : length row ≡ 512 → (t.active ≤ 256) × (length (take t.active row) ≡ t.active)
  unfolding row_of
  active_few row_long =
      let a : length (row_of (take t.active row)) ≡ length (take t.active row) = length-map (take t.active row) spine_of in
      let b : t.active ≤ 256 = omega (arith, steady.row_short, length-take t.active row) in
      (b, length-take-le t.active row (omega arith))

  -- the row holds as many cells
  pub under : length row ≡ 512 → Under row t
  under row_long = record {
    ready = record {
      cells_long = omega (arith, (active_few row_long).0, (active_few row_long).1);
      parts_few = inv.parts_few;
      bars_few = steady.bars_few;
      within = λ (j p v : ℕ) e. omega (arith, steady.within j p v e, length-take t.parts parts);
    };
    long = (active_few row_long).1;
  }

  -- the line that begins at `from` and ends at e
  module _ {e : ℕ} (on : from ≤ length text) (ends_at : e ≡ piece_end 10 text from) where
    abbrev line_here : List ℕ
    line_here = without_crs (take (e - from) (drop from text))

    -- what the line comes to decides what the text comes to
    line_decides : lines_at false 0 0 (lines_of text) start 0 out₀
        ≡ line_at (landed (read_line begun (number + 1) from line_here (state_of (take t.active row) parts t)) out t.at)
        (lines_at (begun || is_record (kind_of line_here)) (number + 1) (e + 1) (pieces 10 (e + 1) text))
    unfolding lines_at
    line_decides =
        let at : Piece 10 text from e = piece_at_lem on ends_at in
        let long : length (take (e - from) (drop from text)) ≡ e - from = length-take-le (e - from) (drop from text) (omega (arith, at.high, length-drop from text)) in
        let next : from + length (take (e - from) (drop from text)) + 1 ≡ e + 1 = omega (arith, at.low) in
        inv.same
        ∙ ap (λ (ls : List (List ℕ)). lines_at begun number from ls (state_of (take t.active row) parts t) t.at out) at.here
        ∙ ap (λ (k : ℕ). line_at (landed (read_line begun (number + 1) from line_here (state_of (take t.active row) parts t)) out t.at)
        (lines_at (begun || is_record (kind_of line_here)) (number + 1) k (pieces 10 (e + 1) text))) next

    -- the step that the code answered, with the row, the parts and the buffer that it left
    module _ (s : Answered Flow Refusal) (row' : List ℕ) (parts' : List Part) (out' : List ℕ)
        (so : told_flow s row' parts' out' ≡ landed (read_line begun (number + 1) from line_here (state_of (take t.active row) parts t)) out t.at) where
      told_decides : lines_at false 0 0 (lines_of text) start 0 out₀
          ≡ line_at (told_flow s row' parts' out') (lines_at (begun || is_record (kind_of line_here)) (number + 1) (e + 1) (pieces 10 (e + 1) text))
      told_decides =
          line_decides ∙ sym (ap (λ (x : Landed). line_at x (lines_at (begun || is_record (kind_of line_here)) (number + 1) (e + 1) (pieces 10 (e + 1) text))) so)

      -- the reading is refused
      pub reading_refused : (r : Refusal) → s ≡ Err r → refused (number_of r) (line_of r) (figure_of r) ≡ lines_at false 0 0 (lines_of text) start 0 out₀
      reading_refused r is =
          sym
          (told_decides
          ∙ ap (λ (x : Answered Flow Refusal). line_at (told_flow x row' parts' out') (lines_at (begun || is_record (kind_of line_here)) (number + 1) (e + 1) (pieces 10 (e + 1) text))) is)

      -- it ends
      pub reading_ends : (u : Tally) → s ≡ Ok (Ends u)
          → lines_at false 0 0 (lines_of text) start 0 out₀ ≡ finish_at true (state_of (take u.active row') parts' u) u.at out'
      reading_ends u is =
          told_decides
          ∙ ap (λ (x : Answered Flow Refusal). line_at (told_flow x row' parts' out') (lines_at (begun || is_record (kind_of line_here)) (number + 1) (e + 1) (pieces 10 (e + 1) text))) is

      -- it goes on
      pub reading_turn : (u : Tally) → s ≡ Ok (Goes u) → FewFlow s → length out' ≡ length out
          → Reading text out₀ row' parts' out' (e + 1) (number + 1) (begun || is_record (kind_of line_here)) u
      reading_turn u is few lo =
          let at : Piece 10 text from e = piece_at_lem on ends_at in
          let went : going (state_of (take u.active row') parts' u) u.at out'
          ≡ landed (read_line begun (number + 1) from line_here (state_of (take t.active row) parts t)) out t.at
          = ap (λ (x : Answered Flow Refusal). told_flow x row' parts' out') (sym is) ∙ so in
          let step = goes_is (read_line begun (number + 1) from line_here (state_of (take t.active row) parts t)) out t.at went in
          let passes : Passes (0 + 5 * length line_here) 0 (goes step.0)
          = subst (λ (x : Step). Passes (0 + 5 * length line_here) 0 x) step.1
          (line_holds begun (number + 1) from line_here (state_of (take t.active row) parts t) inv.holds) in
          record {
            same =
                told_decides
                ∙ ap (λ (x : Answered Flow Refusal). line_at (told_flow x row' parts' out') (lines_at (begun || is_record (kind_of line_here)) (number + 1) (e + 1) (pieces 10 (e + 1) text))) is;
            firm = subst Firmly step.2 (line_firm begun (number + 1) from line_here (state_of (take t.active row) parts t) step.0 inv.firm step.1);
            holds = subst (Holds 0 0) step.2 (unpaid passes);
            out_long = lo ∙ inv.out_long;
            parts_few = subst FewFlow is few;
            inside = omega (arith, at.high);
            counted = omega (arith, inv.counted, at.low);
          }

  -- the same of the line that the code takes, and of the place behind it
  module _ {at' line' : ℕ} {bytes : List ℕ} {n offset : ℕ} (taken : Taken text from number at' line' bytes n offset) {kind : Kind} (is-kind : kind ≡ kind_of bytes) where
    ends_at : at' - 1 ≡ piece_end 10 text from
    ends_at = omega (arith, taken.moved)

    module _ (s : Answered Flow Refusal) (row' : List ℕ) (parts' : List Part) (out' : List ℕ)
        (so : told_flow s row' parts' out' ≡ landed (read_line begun n offset bytes (state_of (take t.active row) parts t)) out t.at) where
      so_numbered : told_flow s row' parts' out' ≡ landed (read_line begun (number + 1) from bytes (state_of (take t.active row) parts t)) out t.at
      so_numbered = so ∙ ap₂ (λ (k o : ℕ). landed (read_line begun k o bytes (state_of (take t.active row) parts t)) out t.at) (taken.number_is ∙ taken.counted) taken.offset_is

      so_here : told_flow s row' parts' out'
          ≡ landed (read_line begun (number + 1) from (without_crs (take (at' - 1 - from) (drop from text))) (state_of (take t.active row) parts t)) out t.at
      so_here = so_numbered ∙ ap (λ (l : List ℕ). landed (read_line begun (number + 1) from l (state_of (take t.active row) parts t)) out t.at) taken.bytes_are

      pub refused_here : (r : Refusal) → s ≡ Err r → refused (number_of r) (line_of r) (figure_of r) ≡ lines_at false 0 0 (lines_of text) start 0 out₀
      refused_here r is = reading_refused taken.on ends_at s row' parts' out' so_here r is

      pub ends_here : (u : Tally) → s ≡ Ok (Ends u)
          → lines_at false 0 0 (lines_of text) start 0 out₀ ≡ finish_at true (state_of (take u.active row') parts' u) u.at out'
      ends_here u is = reading_ends taken.on ends_at s row' parts' out' so_here u is

      pub ends_small : (u : Tally) → s ≡ Ok (Ends u) → FewFlow s → (u.parts ≤ 256) × (u.bars ≤ 100000)
      ends_small u is few =
          let went : ending (state_of (take u.active row') parts' u) u.at out'
          ≡ landed (read_line begun (number + 1) from bytes (state_of (take t.active row) parts t)) out t.at
          = ap (λ (x : Answered Flow Refusal). told_flow x row' parts' out') (sym is) ∙ so_numbered in
          let step = ends_is (read_line begun (number + 1) from bytes (state_of (take t.active row) parts t)) out t.at went in
          let passes : Passes (0 + 5 * length bytes) 0 (ends step.0)
          = subst (λ (x : Step). Passes (0 + 5 * length bytes) 0 x) step.1
          (line_holds begun (number + 1) from bytes (state_of (take t.active row) parts t) inv.holds) in
          let held : Holds 0 0 (state_of (take u.active row') parts' u) = subst (Holds 0 0) step.2 (unpaid passes) in
          (subst FewFlow is few, omega (arith, held.closed, held.notes_few))

      pub goes_here : (u : Tally) → s ≡ Ok (Goes u) → FewFlow s → length out' ≡ length out → {begun' : Bool} → begun' ≡ (begun || is_record kind)
          → Reading text out₀ row' parts' out' at' line' begun' u
      goes_here u is few lo b =
          let next : at' - 1 + 1 ≡ at' = omega (arith, taken.moved) in
          subst (λ (x : Bool). Reading text out₀ row' parts' out' at' line' x u)
          (sym (b ∙ ap (λ (l : Kind). begun || is_record l) (is-kind ∙ ap kind_of taken.bytes_are)))
          (subst (λ (k : ℕ). Reading text out₀ row' parts' out' at' k (begun || is_record (kind_of (without_crs (take (at' - 1 - from) (drop from text))))) u) (sym taken.counted)
          (subst (λ (k : ℕ). Reading text out₀ row' parts' out' k (number + 1) (begun || is_record (kind_of (without_crs (take (at' - 1 - from) (drop from text))))) u) next
          (reading_turn taken.on ends_at s row' parts' out' so_here u is few lo)))

    -- a line that does nothing
    pub passed_here : is_passed kind ≡ true → Reading text out₀ row parts out at' line' begun t
    passed_here p =
        goes_here (Ok (Goes t)) row parts out (passed_told begun n offset bytes out row parts t kind is-kind p) t refl inv.parts_few refl (passed_begun begun kind p)
