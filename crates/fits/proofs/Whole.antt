-- Every record of an accepted text has room in its fields.
use mathlib.Core.Path.{◌≡◌, refl, subst}
use mathlib.Core.Bool.{Bool, true, false, cond, ◌||◌}
use mathlib.Core.List.{List, [], ◌∷◌, ◌++◌, map, reverse}
use Prim.Native.Nat.{ℕ, ◌+◌, ◌≤◌, ◌<◌, ◌^◌}
use native.Mathlib.Omega.{arith}
use lib.Dec.{eqb, leb}
use lib.ListN.{length, get_or}
use borrow.Author.Tests.{leb-true}
use Rattle.slices.proofs.TotalLaws.{total, split_total}
use Rattle.sheet.specs.Record.{Record}
use Rattle.sheet.specs.Fits.{All, U8, Fits}
use Rattle.utf8.specs.Utf8.{utf8_length}
use Rattle.lines.specs.Lines.{lines_of, without_crs, kind_of}
use Rattle.reading.specs.State.{State, Result, Step, refused, goes, ends, start, fresh_part}
use Rattle.reading.specs.declared.Part.{Part}
use Rattle.reading.specs.Notices.{quiet}
use Rattle.reading.specs.Bars.{any_noted, closing}
use Rattle.reading.specs.Records.{read_line, is_record}
use Rattle.reading.specs.Text.{Answer, refusal, accepted, part_record, last_part, end_record, last_closing, last_records, finish, read_lines, read_text}
use Rattle.fits.proofs.Each.{either, all_append, all_reverse, all_map, all_bytes}
use Rattle.fits.proofs.Cuts.{split_bytes, content_bytes}
use Rattle.fits.proofs.Good.{numbers, Good, Fine, FineStep, going, ending, PartGood, good_start, good_more, fresh_good, fine_quiet}
use Rattle.fits.proofs.Bars.{fine_closing}
use Rattle.fits.proofs.Lines.{fine_line}
use Rattle.lines.proofs.TrimLaws.{content_short}

-- ---- the end

part_record_lem : (p : Part) → PartGood p → Fits (part_record p)
part_record_lem p g = record {
  bytes = (
    (numbers g.current).part,
    (
      g.named,
      (either U8 (eqb p.first.clef 0) 1 p.first.clef (omega arith) (numbers g.first).clef, tt),
    ),
  );
  spans = (g.name, (g.short, tt));
}

last_part_lem : (d : Part) (ps : List Part) → PartGood d → All PartGood ps → PartGood (last_part d ps)
unfolding last_part
last_part_lem d [] h k = h
last_part_lem d (p ∷ ps) h k = last_part_lem p ps k.0 k.1

end_record_lem : {n : ℕ} {st : State} → Good n st → Fits (end_record st)
end_record_lem {n} {st} g =
    let b = numbers (last_part_lem (fresh_part 0) st.parts (fresh_good 0 (omega arith)) g.parts).first in
    record {
      bytes = (b.mode, (b.fifths, (b.numerator, (b.denominator, tt))));
      tempo = g.tempo;
      spans = (g.title, (g.composer, (g.lyricist, tt)));
    }

last_closing_lem : {n : ℕ} {st : State} → n < 134217728 → Good n st → Fine (n + 1) (last_closing st)
unfolding last_closing
last_closing_lem {n} {st} w g =
    either (Fine (n + 1)) (any_noted st.parts) (closing 0 0 st) (quiet st) (fine_closing 0 0 st (omega arith) (omega arith) w g)
    (fine_quiet (good_more (omega arith) g))

last_records_lem : {n : ℕ} {st : State} → Good n st → All Fits (last_records st)
unfolding last_records
last_records_lem {n} {st} g =
    all_append Fits (map part_record (reverse st.parts)) (end_record st ∷ [])
    (all_map PartGood Fits part_record part_record_lem (reverse st.parts) (all_reverse PartGood st.parts g.parts))
    (end_record_lem g, tt)

abbrev AnswerFits : Answer → Type 0
AnswerFits (refusal n l f) = Unit {0}
AnswerFits (accepted parts notes rs) = All Fits rs

finish_fits : {n : ℕ} (begun : Bool) (before : List Record) (st : State) → n < 134217728 → All Fits before → Good n st → AnswerFits (finish begun before st)
unfolding finish
finish_fits {n} begun before st w h g =
    let r = last_closing_lem w g in
    either AnswerFits begun _ (refusal 11 0 0)
    (either AnswerFits (eqb st.notes 0) (refusal 12 0 0) (accepted (length st.parts) st.notes (before ++ ((last_closing st).records ++ last_records (last_closing st).state)))
    tt
    (all_append Fits before ((last_closing st).records ++ last_records (last_closing st).state) h
    (all_append Fits (last_closing st).records (last_records (last_closing st).state) r.records (last_records_lem r.state))))
    tt

-- ---- the lines

lines_fit : (begun : Bool) (k at : ℕ) (before : List Record) (st : State) (ls : List (List ℕ)) → k ≤ at → at + (total ls + length ls) ≤ 67108865
    → All (All U8) ls → All Fits before → Good k st → AnswerFits (read_lines begun k at before st ls)
unfolding read_lines total
lines_fit begun k at before st [] w t b h g = finish_fits begun before st (omega arith) h g
lines_fit begun k at before st (l ∷ ls) w t b h g =
    go (read_line begun (k + 1) at (without_crs l) st)
    (fine_line (k + 1) at (without_crs l)
    (record { number = omega arith; ends = omega (arith, content_short l); bytes = content_bytes l b.0 }) (omega arith) begun st g)
    (λ (r : Result) (f : Fine (k + 1) r).
    lines_fit (begun || is_record (kind_of (without_crs l))) (k + 1) (at + length l + 1) (before ++ r.records) r.state ls (omega arith) (omega arith) b.1
    (all_append Fits before r.records h f.records) f.state)
  where
    go : (s : Step) → FineStep (k + 1) s
        → ((r : Result) → Fine (k + 1) r
        → AnswerFits (read_lines (begun || is_record (kind_of (without_crs l))) (k + 1) (at + length l + 1) (before ++ r.records) r.state ls))
        → AnswerFits (elim s [
          | refused n m f ↦ refusal n m f
          | goes r ↦ read_lines (begun || is_record (kind_of (without_crs l))) (k + 1) (at + length l + 1) (before ++ r.records) r.state ls
          | ends r ↦ finish true (before ++ r.records) r.state
        ])
    go (refused n m f) x ih = tt
    go (goes r) (going x) ih = ih r x
    go (ends r) (ending x) ih =
        finish_fits true (before ++ r.records) r.state (omega arith) (all_append Fits before r.records h x.records) x.state

text_fits : (text : List ℕ) → All U8 text → AnswerFits (read_text text)
unfolding read_text
text_fits text b = go (leb (length text) 67108864) (eqb (utf8_length text) (length text)) refl
  where
    go : (x y : Bool) → leb (length text) 67108864 ≡ x
        → AnswerFits (cond x (cond y (read_lines false 0 0 [] start (lines_of text)) (refusal 2 0 (utf8_length text))) (refusal 1 0 (length text)))
    go false y e = tt
    go true false e = tt
    go true true e =
        lines_fit false 0 0 [] start (lines_of text) (omega arith) (omega (arith, split_total 10 text, leb-true (length text) 67108864 e))
        (split_bytes 10 text b) tt good_start

-- "u8, u16, u32 are widths": every number of every record is within its width, and the counts say what follows
pub all_fit : (text : List ℕ) → ((i : ℕ) → get_or text i 0 < 2 ^ 8) → (parts notes : ℕ) (rs : List Record) → read_text text ≡ accepted parts notes rs
    → All Fits rs
all_fit text h parts notes rs e = subst AnswerFits e (text_fits text (all_bytes text h))
