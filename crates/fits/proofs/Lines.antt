-- A line keeps the state good, with one closing more at most.
use Rattle.std.proofs.Common.{Ok, Err}
use mathlib.Core.Path.{◌≡◌, refl, sym, subst, ◌∙◌}
use mathlib.Core.Bool.{Bool, true, false, cond, ◌&&◌, not}
use mathlib.Core.List.{List, [], ◌∷◌}
use mathlib.Core.Logic.{◌⊎◌, inl, inr}
use Prim.Native.Nat.{ℕ, ◌+◌, ◌≤◌, ◌<◌}
use native.Mathlib.Omega.{arith}
use lib.Dec.{eqb}
use lib.ListN.{length}
use borrow.Author.Tests.{eqb-true}
use Rattle.sheet.specs.Record.{span_of}
use Rattle.sheet.specs.Fits.{All, U8}
use Rattle.slices.specs.Compare.{begins_with}
use Rattle.slices.proofs.TestLaws.{clash, both}
use Rattle.slices.proofs.TotalLaws.{split_total}
use Rattle.lines.specs.Lines.{kind_of}
use Rattle.lines.specs.Tokens.{tokens_of, is_star}
use Rattle.lines.specs.declared.Kind.{Kind}
use Rattle.lines.specs.declared.Kind.TheVariants.{Empty, Reference, Comment, Star, Bar, Data}
use Rattle.lines.proofs.KindLaws.{kind_bar}
use Rattle.repair.specs.Repair.{each, first_of, is_bar, identical_bars, repair_of, repair_by, repaired, questions, repaired_of}
use Rattle.repair.specs.declared.Repair.{Repair}
use Rattle.repair.specs.declared.Repair.TheVariants.{Whole, Cut, Stars, Bars}
use Rattle.repair.specs.declared.Unrepaired.TheVariants.{Uneven, Mixed}
use Rattle.repair.proofs.EachLaws.{bar_first}
use Rattle.repair.proofs.WidthLaws.{Applies, applies}
use Rattle.paths.specs.declared.Spine.{Spine}
use Rattle.reading.specs.State.{State}
use Rattle.reading.specs.Notices.{Token, placed, notify}
use Rattle.reading.specs.Notes.{behind}
use Rattle.reading.specs.Records.{notice_repair, by_kind, by_repair, on_row, on_record, by_line, read_line}
use Rattle.fits.proofs.Cuts.{TokenFits, split_bytes, repaired_total, repaired_bytes, placed_fit}
use Rattle.fits.proofs.Good.{Good, Fine, FineStep, refuses, going, ending, span_fits, fine_quiet, fine_more, step_more, fine_notify}
use Rattle.fits.proofs.Headers.{fine_reference, fine_header}
use Rattle.fits.proofs.Stars.{fine_star}
use Rattle.fits.proofs.Bars.{fine_bar}
use Rattle.fits.proofs.Notes.{fine_data, fine_behind}

-- ---- only barlines are filled with a longer token than `*`, and a record that begins `=` has no spans

bar_kind : (line : List ℕ) → is_bar line ≡ true → kind_of line ≡ Bar
unfolding is_bar begins_with
bar_kind [] e = clash cc
bar_kind (x ∷ s) e = sym (kind_bar (x ∷ s) (λ z. omega arith) (eqb-true x 61 (both (eqb x 61) true e).0))

filled_bars_lem : (n : ℕ) (line : List ℕ) → Bars ≡ repair_of n (tokens_of line) → kind_of line ≡ Bar
unfolding identical_bars
filled_bars_lem n line e =
    let a : Applies n (tokens_of line) Bars = subst (Applies n (tokens_of line)) (sym e) (applies n (tokens_of line)) in
    bar_kind line (bar_first line ∙ (both (is_bar (first_of (tokens_of line))) _ a.1).0)

is_bars : (r : Repair) → (r ≡ Bars) ⊎ (r ≡ Bars → ⊥)
is_bars Whole = inr (λ e. clash cc)
is_bars Cut = inr (λ e. clash cc)
is_bars Stars = inr (λ e. clash cc)
is_bars Bars = inl refl

-- a line's place: its number, its offset and its bytes
pub record Here (k at : ℕ) (line : List ℕ) : Type 0 where
  pub number : k ≤ 67108866
  pub ends : at + length line ≤ 67108864
  pub bytes : All U8 line

module _ {m : ℕ} (k at : ℕ) (line : List ℕ) (here : Here k at line) (w : m < 134217728) where
  fine_kind : (q : Kind) (ts : List Token) (st : State) → All TokenFits ts → Good m st → FineStep (m + 1) (by_kind q k ts st)
  fine_kind Empty ts st f g = going (fine_more (omega arith) (fine_quiet g))
  fine_kind Reference ts st f g = going (fine_more (omega arith) (fine_quiet g))
  fine_kind Comment ts st f g = going (fine_more (omega arith) (fine_quiet g))
  fine_kind Star ts st f g = step_more (omega arith) (fine_star k ts st (omega (arith, here.number)) f g)
  fine_kind Bar ts st f g = going (fine_bar ts st w g)
  fine_kind Data ts st f g = step_more (omega arith) (fine_data k ts st (omega (arith, here.number)) w f g)

  line_span : (number : ℕ) (st : State) → U8 number × (eqb number 17 ≡ false) → Good m st → Fine m (notify number k 0 (span_of at (length line)) st)
  line_span number st p g =
      fine_notify number k 0 (span_of at (length line)) p (omega (arith, here.number)) (omega arith)
      (span_fits at (length line) (omega (arith, here.ends)) (omega (arith, here.ends))) g

  fine_notice : (r : Repair) (st : State) → Good m st → Fine m (notice_repair r k at line st)
  unfolding notice_repair
  fine_notice Whole st g = fine_quiet g
  fine_notice Cut st g = line_span 4 st (omega arith, refl) g
  fine_notice Stars st g = line_span 5 st (omega arith, refl) g
  fine_notice Bars st g = line_span 6 st (omega arith, refl) g

  fine_even : (n : ℕ) (r : Repair) (st : State) → n ≤ 256 → r ≡ repair_of n (tokens_of line) → Good m st
      → FineStep (m + 1) (behind (notice_repair r k at line st) (by_kind (kind_of line) k (placed at (repair_by r n (tokens_of line)))))
  fine_even n r st few e g = go (is_bars r)
    where
      go : (r ≡ Bars) ⊎ (r ≡ Bars → ⊥)
          → FineStep (m + 1) (behind (notice_repair r k at line st) (by_kind (kind_of line) k (placed at (repair_by r n (tokens_of line)))))
      go (inl b) =
          rw (filled_bars_lem n line (sym b ∙ e))
          (fine_behind (by_kind Bar k (placed at (repair_by r n (tokens_of line)))) (fine_notice r st g) (λ s x. going (fine_bar _ s w x)))
      go (inr b) =
          fine_behind (by_kind (kind_of line) k (placed at (repair_by r n (tokens_of line)))) (fine_notice r st g)
          (λ s x. fine_kind (kind_of line) (placed at (repair_by r n (tokens_of line))) s
          (placed_fit at (repair_by r n (tokens_of line)) (omega (arith, repaired_total r n (tokens_of line) b, split_total 9 line, here.ends))
          (repaired_bytes r n (tokens_of line) b (split_bytes 9 line here.bytes)))
          x)

  fine_repaired : (n : ℕ) (st : State) → n ≤ 256 → Good m st
      → FineStep (m + 1) (by_repair (repaired_of n (tokens_of line)) k at line (placed at (repaired n (tokens_of line))) st)
  unfolding questions
  fine_repaired n st few g =
      go (eqb (length (repair_by (repair_of n (tokens_of line)) n (tokens_of line))) n)
      (is_star (first_of (tokens_of line)) && not (each is_star (repair_by (repair_of n (tokens_of line)) n (tokens_of line))))
    where
      go : (a b : Bool) → FineStep (m + 1)
          (by_repair (cond a (cond b (Err Mixed) (Ok (repair_of n (tokens_of line)))) (Err (Uneven (length (tokens_of line))))) k at line
          (placed at (repair_by (repair_of n (tokens_of line)) n (tokens_of line))) st)
      go true true = refuses
      go true false = fine_even n (repair_of n (tokens_of line)) st few refl g
      go false b = refuses

  fine_row : (row : List Spine) (st : State) → length row ≤ 256 → Good m st → FineStep (m + 1) (on_row row k at line st)
  fine_row [] st few g = ending (fine_more (omega arith) (line_span 3 st (omega arith, refl) g))
  fine_row (s ∷ row) st few g = fine_repaired (length (s ∷ row)) st few g

  fine_record : (begun : Bool) (st : State) → Good m st → FineStep (m + 1) (on_record begun k at line st)
  fine_record true st g = fine_row st.row st g.row.few g
  fine_record false st g = step_more (omega arith) (fine_header k at line st (omega (arith, here.number)) here.ends here.bytes g)

  by_line_lem : (q : Kind) (begun : Bool) (st : State) → Good m st → FineStep (m + 1) (by_line q begun k at line st)
  by_line_lem Empty begun st g = going (fine_more (omega arith) (fine_quiet g))
  by_line_lem Reference begun st g = going (fine_more (omega arith) (fine_reference k at line st (omega (arith, here.number)) here.ends g))
  by_line_lem Comment begun st g = going (fine_more (omega arith) (fine_quiet g))
  by_line_lem Star begun st g = fine_record begun st g
  by_line_lem Bar begun st g = fine_record begun st g
  by_line_lem Data begun st g = fine_record begun st g

  pub fine_line : (begun : Bool) (st : State) → Good m st → FineStep (m + 1) (read_line begun k at line st)
  unfolding read_line
  fine_line begun st g = by_line_lem (kind_of line) begun st g
