-- The reading after some lines, and the place that it has come to.
use Prim.Native.Nat.{ℕ, ◌+◌}
use native.Mathlib.Omega.{arith}
use mathlib.Core.Bool.{Bool, true, false, ◌||◌}
use mathlib.Core.List.{List, [], ◌∷◌, ◌++◌}
use mathlib.Core.Option.{some}
use mathlib.Core.Path.{◌≡◌, refl, sym, ap, ◌∙◌}
use lib.ListN.{length}
use Rattle.slices.proofs.TestLaws.{clash}
use Rattle.lines.specs.Lines.{without_crs, kind_of}
use Rattle.paths.specs.Record.{Rec}
use Rattle.sheet.specs.Record.{Record}
use Rattle.reading.specs.State.{State, Result, Step, refused, goes, ends}
use Rattle.reading.specs.Records.{read_line, on_record}
use Rattle.reading.specs.Text.{Answer, read_lines}
use Rattle.account.specs.Rows.{Numbered, is_record, records_from, header_in, later_in}
use Rattle.account.specs.Reached.{Place, where_goes, place_after}
use Rattle.account.proofs.ResultLaws.{Adds}
use Rattle.account.proofs.RecordLaws.{Stands}
use Rattle.account.proofs.LineLaws.{record_at, records_some, records_none, other_line, record_line, carry_on, same_record, read_line_lem, Passed, passed, counted, paths_in, Begins, begins}

-- the place after one line more
pub place_line : (begun : Bool) (k offset : ℕ) (st : State) (l : List ℕ) (ls : List (List ℕ))
    → place_after begun k offset st (l ∷ ls)
    ≡ where_goes (read_line begun (k + 1) offset (without_crs l) st) (λ (s : State). place_after (begun || is_record (kind_of (without_crs l))) (k + 1) (offset + length l + 1) s ls)
unfolding place_after
place_line begun k offset st l ls = rw (← same_record (kind_of (without_crs l)))

-- the reading has come to this place before these lines, and what it comes to from there is its answer
pub record PlacedAt (h : List Bool) (recs : ℕ → Rec) (n : ℕ) (st : State) (k : ℕ) (ls : List (List ℕ)) (answer : Answer) : Type 0 where
  pub stands : Stands h recs n st (records_from k ls)
  pub offset : ℕ
  pub before : List Record
  pub reads : answer ≡ read_lines true k offset before st ls

same_place : {a b : Place} → some a ≡ some b → a ≡ b
same_place e = cc

counted_length : (n k : ℕ) (l : List ℕ) (ls : List (List ℕ)) → counted l n + length (records_from (k + 1) ls) ≡ n + length (records_from k (l ∷ ls))
counted_length n k l ls = go (is_record (kind_of (without_crs l))) refl
  where
    go : (b : Bool) → is_record (kind_of (without_crs l)) ≡ b → counted l n + length (records_from (k + 1) ls) ≡ n + length (records_from k (l ∷ ls))
    go true i = rw (i, records_some k l ls i) (omega arith)
    go false i = rw (i, records_none k l ls i) refl

module _ (h : List Bool) (recs : ℕ → Rec) (tail : List (List ℕ)) (there : State) where
  abbrev PlacedTrue : ℕ → ℕ → List (List ℕ) → Type 0
  PlacedTrue k offset ls = (n : ℕ) (before : List Record) (st : State) (b : Bool) → Stands h recs n st (records_from k (ls ++ tail))
      → place_after true k offset st ls ≡ some (record { begun = b; state = there })
      → PlacedAt h recs (n + length (records_from k ls)) there (k + length ls) tail (read_lines true k offset before st (ls ++ tail))

  place_one : (k offset : ℕ) (l : List ℕ) (ls : List (List ℕ)) → PlacedTrue (k + 1) (offset + length l + 1) ls → PlacedTrue k offset (l ∷ ls)
  place_one k offset l ls later n before st b here e =
      go (read_line true (k + 1) offset (without_crs l) st) refl (sym (place_line true k offset st l ls) ∙ e)
    where
      go : (s : Step) → read_line true (k + 1) offset (without_crs l) st ≡ s
          → where_goes s (λ (s : State). place_after true (k + 1) (offset + length l + 1) s ls) ≡ some (record { begun = b; state = there })
          → PlacedAt h recs (n + length (records_from k (l ∷ ls))) there (k + length (l ∷ ls)) tail (read_lines true k offset before st (l ∷ (ls ++ tail)))
      go (refused q m f) i e = clash cc
      go (goes r) i e =
          let p : Passed h recs n k st l (ls ++ tail) r = passed h recs n k offset st l (ls ++ tail) r here i in
          let y : k + 1 + length ls ≡ k + length (l ∷ ls) = omega arith in
          let reads : read_lines true k offset before st (l ∷ (ls ++ tail)) ≡ read_lines true (k + 1) (offset + length l + 1) (before ++ r.records) r.state (ls ++ tail) =
          read_line_lem true k offset before st l (ls ++ tail) ∙ ap (carry_on true (k + 1) (offset + length l + 1) before (ls ++ tail)) i in
          rw (reads, ← counted_length n k l ls, ← y) (later (counted l n) (before ++ r.records) r.state b p.stands e)
      go (ends r) i e = clash cc

  place_true : (k offset : ℕ) (ls : List (List ℕ)) → PlacedTrue k offset ls
  unfolding place_after records_from
  place_true k offset [] = λ n before st b here e.
      let z : n + 0 ≡ n = omega arith in
      let y : k + 0 ≡ k = omega arith in
      let same : st ≡ there = ap (λ (p : Place). p.state) (same_place e) in
      rw (z, y, ← same) (record { stands = here; offset = offset; before = before; reads = refl })
  place_true k offset (l ∷ ls) = place_one k offset l ls (place_true (k + 1) (offset + length l + 1) ls)

-- from the start of the text
module _ (tail : List (List ℕ)) (there : State) where
  abbrev PlacedFalse : ℕ → ℕ → List (List ℕ) → Type 0
  PlacedFalse k offset ls = (before : List Record) (st : State) → place_after false k offset st ls ≡ some (record { begun = true; state = there })
      → PlacedAt (header_in (records_from k (ls ++ tail))) (paths_in (records_from k (ls ++ tail))) (length (later_in (records_from k ls))) there (k + length ls) tail
      (read_lines false k offset before st (ls ++ tail))

  start_one : (k offset : ℕ) (l : List ℕ) (ls : List (List ℕ)) → PlacedFalse (k + 1) (offset + length l + 1) ls → PlacedFalse k offset (l ∷ ls)
  start_one k offset l ls later before st e = by_kind_lem (is_record (kind_of (without_crs l))) refl (sym (place_line false k offset st l ls) ∙ e)
    where
      x : Numbered
      x = record_at k l ls

      y : k + 1 + length ls ≡ k + length (l ∷ ls)
      y = omega arith

      header : is_record (kind_of (without_crs l)) ≡ true → (s : Step) → on_record false (k + 1) offset (without_crs l) st ≡ s
          → where_goes s (λ (s : State). place_after true (k + 1) (offset + length l + 1) s ls) ≡ some (record { begun = true; state = there })
          → PlacedAt (header_in (x ∷ records_from (k + 1) (ls ++ tail))) (paths_in (x ∷ records_from (k + 1) (ls ++ tail))) (length (records_from (k + 1) ls)) there (k + length (l ∷ ls)) tail
          (carry_on true (k + 1) (offset + length l + 1) before (ls ++ tail) s)
      header t (refused q m f) i e = clash cc
      header t (goes r) i e =
          let g : Begins x (records_from (k + 1) (ls ++ tail)) st r = begins x (records_from (k + 1) (ls ++ tail)) offset st r i in
          let z : 0 + length (records_from (k + 1) ls) ≡ length (records_from (k + 1) ls) = omega arith in
          rw (← z, ← y)
          (place_true (header_in (x ∷ records_from (k + 1) (ls ++ tail))) (paths_in (x ∷ records_from (k + 1) (ls ++ tail))) tail there (k + 1) (offset + length l + 1) ls
          0 (before ++ r.records) r.state true g.stands e)
      header t (ends r) i e = clash cc

      by_kind_lem : (t : Bool) → is_record (kind_of (without_crs l)) ≡ t
          → where_goes (read_line false (k + 1) offset (without_crs l) st) (λ (s : State). place_after (is_record (kind_of (without_crs l))) (k + 1) (offset + length l + 1) s ls)
          ≡ some (record { begun = true; state = there })
          → PlacedAt (header_in (records_from k (l ∷ (ls ++ tail)))) (paths_in (records_from k (l ∷ (ls ++ tail)))) (length (later_in (records_from k (l ∷ ls)))) there (k + length (l ∷ ls)) tail
          (read_lines false k offset before st (l ∷ (ls ++ tail)))
      by_kind_lem true t e = rw (read_line_lem false k offset before st l (ls ++ tail), t, record_line false (k + 1) offset (without_crs l) st t, records_some k l ls t, records_some k l (ls ++ tail) t)
          (header t (on_record false (k + 1) offset (without_crs l) st) refl (rw (t, record_line false (k + 1) offset (without_crs l) st t) at e))
      by_kind_lem false t e =
          let o : (r : Result) × (read_line false (k + 1) offset (without_crs l) st ≡ goes r) × Adds st r [] = other_line false (k + 1) offset (without_crs l) st t in
          rw (read_line_lem false k offset before st l (ls ++ tail), t, o.1, records_none k l ls t, records_none k l (ls ++ tail) t, ← y)
          (later (before ++ o.0.records) o.0.state (rw (t, o.1) at e))

  pub place_start : (k offset : ℕ) (ls : List (List ℕ)) → PlacedFalse k offset ls
  unfolding place_after
  place_start k offset [] = λ before st e.
      let never : false ≡ true = ap (λ (p : Place). p.begun) (same_place e) in
      clash cc
  place_start k offset (l ∷ ls) = start_one k offset l ls (place_start (k + 1) (offset + length l + 1) ls)
