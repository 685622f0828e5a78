-- The rows of the reading are those that the text says: record by record, and column by column.
use Rattle.std.proofs.Common.{Ok}
use Prim.Native.Nat.{ℕ, zero, suc, ◌+◌, ◌<◌}
use native.Mathlib.Omega.{arith}
use mathlib.Core.Bool.{Bool, true, false, cond}
use mathlib.Core.List.{List, [], ◌∷◌, map}
use mathlib.Core.Logic.{◌≢◌}
use mathlib.Core.Option.{Option, some}
use mathlib.Core.Path.{◌≡◌, refl, sym, ap, subst, ◌∙◌}
use lib.ListN.{length, get_or}
use borrow.Author.Tests.{eq-eqb}
use Rattle.slices.specs.Ascii.{ascii}
use Rattle.slices.specs.Compare.{begins_with, same_bytes}
use Rattle.lines.specs.Lines.{kind_of}
use Rattle.lines.specs.Tokens.{tokens_of, is_star}
use Rattle.lines.specs.declared.Kind.{Kind}
use Rattle.lines.specs.declared.Kind.TheVariants.{Empty, Reference, Comment, Star, Bar, Data}
use Rattle.paths.specs.Record.{Rec, star, plain, tokens}
use Rattle.paths.specs.Row.{part_of, spine_at}
use Rattle.paths.specs.declared.Spine.{Spine}
use Rattle.paths.specs.declared.Spine.TheVariants.{Line, Branch, Outside}
use Rattle.paths.specs.Demand.{At}
use Rattle.paths.specs.Text.{reading, read_record, take_record, read_to}
use Rattle.paths.specs.Token.{path_token}
use Rattle.paths.specs.Trace.{kerns_before, made_in, parts_to, part, columns, width_in}
use Rattle.paths.specs.TracedVoice.{voice}
use Rattle.paths.specs.Voices.{Outcome, next, step_row}
use Rattle.paths.proofs.Demand.{demand}
use Rattle.paths.proofs.TextLaws.{one_more, part_below}
use Rattle.paths.proofs.TracedVoices.{traced_voice}
use Rattle.repair.specs.Record.{record_of}
use Rattle.repair.specs.Repair.{repaired, repaired_of}
use Rattle.repair.specs.declared.Repair.{Repair}
use Rattle.repair.proofs.WidthLaws.{even_width, record_tokens_lem}
use Rattle.reading.specs.Bars.{is_kern_spine}
use Rattle.reading.specs.Header.{fresh_parts}
use Rattle.account.specs.Rows.{Numbered, is_record, paths_from}
use Rattle.account.specs.Account.{kern_columns}
use Rattle.account.proofs.DataLaws.{Column, Columns}

-- ---- a line's kind, and whether it begins `*`

-- whether a record of that kind makes the next row by its path tokens
abbrev moves : Kind → Bool
moves Empty = false
moves Reference = false
moves Comment = false
moves Star = true
moves Bar = false
moves Data = false

pub kind_star : (s : List ℕ) → is_record (kind_of s) ≡ true → is_star s ≡ moves (kind_of s)
unfolding kind_of is_star
kind_star s = go (same_bytes (ascii "") s) (begins_with (ascii "!!!") s) (begins_with (ascii "!") s) (begins_with (ascii "*") s) (begins_with (ascii "=") s)
  where
    go : (a b c d e : Bool) → is_record (cond a Empty (cond b Reference (cond c Comment (cond d Star (cond e Bar Data))))) ≡ true
        → d ≡ moves (cond a Empty (cond b Reference (cond c Comment (cond d Star (cond e Bar Data)))))
    go true b c d e i = cc
    go false true c d e i = cc
    go false false true d e i = cc
    go false false false true e i = refl
    go false false false false true i = refl
    go false false false false false i = refl

-- a record's next row: "begun by `*` it makes the next row by Paths", "any other keeps the row"
abbrev pub row_after : Kind → List (List ℕ) → List Spine → Outcome
row_after Empty ts row = next row
row_after Reference ts row = next row
row_after Comment ts row = next row
row_after Star ts row = step_row row (map path_token ts)
row_after Bar ts row = next row
row_after Data ts row = next row

-- ---- one record after another

-- the n-th later record and those behind it are these, w columns before them
pub record Follows (recs : ℕ → Rec) (n w : ℕ) (rs : List Numbered) : Type 0 where
  pub each : (j : ℕ) → recs (n + j) ≡ get_or (paths_from w rs) j (plain 0)

pub follows_first : {recs : ℕ → Rec} {n w : ℕ} {r : Numbered} {rs : List Numbered} → Follows recs n w (r ∷ rs) → recs n ≡ record_of w r.bytes
unfolding paths_from
follows_first {recs} {n} f = let z : n + 0 ≡ n = omega arith in sym (ap recs z) ∙ f.each 0

follows_rest : {recs : ℕ → Rec} {n w : ℕ} {r : Numbered} {rs : List Numbered} → Follows recs n w (r ∷ rs) → Follows recs (suc n) (width_in (record_of w r.bytes) w) rs
unfolding paths_from
follows_rest {recs} {n} f = record { each = λ j. let z : suc n + j ≡ n + suc j = omega arith in ap recs z ∙ f.each (suc j) }

module _ (h : List Bool) (recs : ℕ → Rec) where
  module _ (n : ℕ) (row : List Spine) (at : At h recs n row) (bytes : List ℕ) (some_spine : 0 < length row) (is_record_lem : is_record (kind_of bytes) ≡ true)
      {r : Repair} (even : repaired_of (length row) (tokens_of bytes) ≡ Ok r) (first : recs n ≡ record_of (length row) bytes) where
    takes : (row : List Spine) → 0 < length row → repaired_of (length row) (tokens_of bytes) ≡ Ok r
        → take_record row (record_of (length row) bytes) ≡ read_record row (record_of (length row) bytes)
    unfolding take_record
    takes [] l e = absurd (omega arith)
    takes (s ∷ row) l e =
        rw (eq-eqb (tokens (record_of (suc (length row)) bytes)) (suc (length row)) (record_tokens_lem (suc (length row)) bytes ∙ even_width (suc (length row)) (tokens_of bytes) e))

    -- the reading of a record is what its kind makes of the row
    pub reads_on : read_to h recs (suc n) ≡ reading (row_after (kind_of bytes) (repaired (length row) (tokens_of bytes)) row)
    unfolding record_of
    reads_on = one_more h recs n row at ∙ ap (take_record row) first ∙ takes row some_spine even ∙ go (kind_of bytes) is_record_lem (is_star bytes) (kind_star bytes is_record_lem)
      where
        go : (kind : Kind) → is_record kind ≡ true → (b : Bool) → b ≡ moves kind
            → read_record row (cond b (star (map path_token (repaired (length row) (tokens_of bytes)))) (plain (length (repaired (length row) (tokens_of bytes)))))
            ≡ reading (row_after kind (repaired (length row) (tokens_of bytes)) row)
        go Empty i b e = cc
        go Reference i b e = cc
        go Comment i b e = cc
        go Star i b e = rw e
        go Bar i b e = rw e
        go Data i b e = rw e

  -- the next row, where it is reached, is as wide as the record makes it
  pub next_width : (n : ℕ) (bytes : List ℕ) (row after : List Spine) → At h recs n row → At h recs (suc n) after
      → recs n ≡ record_of (length row) bytes → length after ≡ width_in (record_of (length row) bytes) (length row)
  unfolding columns
  next_width n bytes row after at at' first =
      (demand h recs).size (suc n) after at' ∙ ap (λ (r : Rec). width_in r (columns h recs n)) first
      ∙ ap (width_in (record_of (length row) bytes)) (sym ((demand h recs).size n row at))

  -- and the records behind follow it
  pub follows_next : {n : ℕ} {x : Numbered} {rs : List Numbered} (row after : List Spine) → At h recs n row → At h recs (suc n) after
      → Follows recs n (length row) (x ∷ rs) → Follows recs (suc n) (length after) rs
  follows_next {n} {x} {rs} row after at at' f =
      subst (λ (w : ℕ). Follows recs (suc n) w rs) (sym (next_width n x.bytes row after at at' (follows_first f))) (follows_rest f)

-- ---- the columns

fresh_length : (h : List Bool) (q : ℕ) → length (fresh_parts q h) ≡ kerns_before h (length h)
unfolding kerns_before fresh_parts
fresh_length [] q = refl
fresh_length (true ∷ h) q = ap suc (fresh_length h (suc q))
fresh_length (false ∷ h) q = fresh_length h q

-- a record makes no part, so there are as many as the header has
made_none : (x : Rec) → made_in x ≡ 0
made_none (star ts) = refl
made_none (plain k) = refl

parts_fresh : (h : List Bool) (recs : ℕ → Rec) (n : ℕ) → parts_to h recs n ≡ length (fresh_parts 0 h)
unfolding parts_to
parts_fresh h recs zero = sym (fresh_length h 0)
parts_fresh h recs (suc n) = omega (arith, parts_fresh h recs n, made_none (recs n))

-- a part is one of the header's
pub part_bound : (h : List Bool) (recs : ℕ → Rec) (n j p : ℕ) → part h recs n j ≡ some p → p < length (fresh_parts 0 h)
part_bound h recs n j p e = omega (arith, part_below h recs n j p e, parts_fresh h recs n)

module _ (part_at_text : ℕ → Option ℕ) (voice_at_text : ℕ → ℕ) (m : ℕ) (bound : (j p : ℕ) → part_at_text j ≡ some p → p < m) where
  column_is : (i : ℕ) (s : Spine) → part_of s ≡ part_at_text i → ((p : ℕ) → s ≢ Branch p)
      → ((p v : ℕ) → s ≡ Line p v → voice_at_text i ≡ v) → Column part_at_text voice_at_text m i s
  column_is i (Line p v) e b w = (sym e, bound i p (sym e), w p v refl)
  column_is i (Branch p) e b w = b p refl
  column_is i Outside e b w = sym e

  columns_are : (i : ℕ) (row : List Spine) → ((j : ℕ) → part_of (spine_at row j) ≡ part_at_text (i + j)) → ((j p : ℕ) → spine_at row j ≢ Branch p)
      → ((j p v : ℕ) → spine_at row j ≡ Line p v → voice_at_text (i + j) ≡ v) → Columns part_at_text voice_at_text m i row
  columns_are i [] e b w = tt
  columns_are i (s ∷ row) e b w =
      let z : i + 0 ≡ i = omega arith in (
        column_is i s (e 0 ∙ ap part_at_text z) (b 0) (λ p v x. sym (ap voice_at_text z) ∙ w 0 p v x),
        columns_are (suc i) row (λ j. let y : i + suc j ≡ suc i + j = omega arith in e (suc j) ∙ ap part_at_text y) (λ j. b (suc j))
            (λ j p v x. let y : suc i + j ≡ i + suc j = omega arith in ap voice_at_text y ∙ w (suc j) p v x),
      )

pub row_columns : (h : List Bool) (recs : ℕ → Rec) (n : ℕ) (row : List Spine) → At h recs n row
    → Columns (part h recs n) (voice h recs n) (length (fresh_parts 0 h)) 0 row
row_columns h recs n row at =
    columns_are (part h recs n) (voice h recs n) (length (fresh_parts 0 h)) (λ j p. part_bound h recs n j p) 0 row
    (λ j. let z : j ≡ 0 + j = omega arith in (demand h recs).in_part n row at j ∙ ap (part h recs n) z) ((demand h recs).voiced n row at)
    (λ j p v x. let z : 0 + j ≡ j = omega arith in ap (voice h recs n) z ∙ traced_voice h recs n row at j p v x)

-- the kern columns, of as many tokens as the row has spines
pub kern_columns_lem : (part_at_text : ℕ → Option ℕ) (voice_at_text : ℕ → ℕ) (m i : ℕ) (row : List Spine) (ts : List (List ℕ))
    → length row ≡ length ts → Columns part_at_text voice_at_text m i row → kern_columns part_at_text i ts ≡ map is_kern_spine row
unfolding kern_columns
kern_columns_lem f g m i [] [] z c = refl
kern_columns_lem f g m i [] (t ∷ ts) z c = absurd (omega arith)
kern_columns_lem f g m i (s ∷ row) [] z c = absurd (omega arith)
kern_columns_lem f g m i (Line p v ∷ row) (t ∷ ts) z ((e, l, w), cs) =
    rw e (ap (λ (ks : List Bool). true ∷ ks) (kern_columns_lem f g m (suc i) row ts (omega arith) cs))
kern_columns_lem f g m i (Branch p ∷ row) (t ∷ ts) z (c, cs) = absurd c
kern_columns_lem f g m i (Outside ∷ row) (t ∷ ts) z (e, cs) =
    rw e (ap (λ (ks : List Bool). false ∷ ks) (kern_columns_lem f g m (suc i) row ts (omega arith) cs))
