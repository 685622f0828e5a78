-- The row, line by line, in cells; and the header column of a part.
use mathlib.Core.Path.{◌≡◌, refl, sym, ap, ◌∙◌, subst}
use Prim.Native.Nat.{ℕ, zero, suc, min, ◌+◌, ◌-◌, ◌≤◌, ◌<◌}
use native.Mathlib.Omega.{arith}
use mathlib.Core.Bool.{Bool, true, false, cond, ◌||◌}
use mathlib.Core.List.{List, [], ◌∷◌, map}
use lib.Dec.{eqb}
use lib.ListN.{length, get_or, take, drop, drop_of_length-le}
use lib.Seq.{length-take-le, drop-cons}
use native.Mathlib.Numerals.{add-one}
use denote.Param.Members.{Mut}
use denote.Ref.{Bor}
use Rattle.std.specs.Fn.{CalledAt}
use Rattle.std.specs.List.{find, slice_get}
use Rattle.std.specs.Option.{option_map}
use Rattle.std.specs.Slice.Iter.{split_steps, split_rest, split_done, split_callee}
use Rattle.std.specs.Iterator.{Yields}
use Rattle.std.proofs.lemmas.Iterator.{YieldsList}
use Rattle.std.proofs.lemmas.Iterator.Consumers.{YieldsList-turn, YieldsList-end}
use Rattle.std.proofs.lemmas.Iterator.Splits.{YieldsList-from_slice_split}
use Rattle.lines.proofs.ChainLaws.{split_same}
use borrow.Author.Tests.{lt-ltb}
use Rattle.lines.specs.Lines.{lines_of, without_crs, kind_of}
use Rattle.lines.specs.Tokens.{tokens_of, is_kern}
use Rattle.lines.specs.declared.Kind.{Kind}
use Rattle.lines.specs.declared.Kind.TheVariants.{Star}
use Rattle.paths.specs.Voices.{step_row}
use Rattle.spines.specs.Cells.{row_of}
use Rattle.spines.specs.Tokens.{record_tokens}
use Rattle.spines.proofs.CellLaws.{row_length}
use Rattle.voices.specs.Outcome.{outcome_of, active_after}
use Rattle.std.proofs.Common.{Result, Ok, Err, Option, Some, None, unwrap_or}
use Rattle.std.specs.Result.{result_unwrap_or}
use Rattle.voices.specs.declared.Stop.{Stop}
use Rattle.voices.specs.declared.Stop.TheVariants.{Mixed, Voiceless, Wide}
use Rattle.holders.specs.Walk.{walked, or_zero, kern_column}
use Rattle.holders.specs.declared.list.Holder.{Holder}
use Rattle.reading.specs.Records.{is_record as is_record_read}
use Rattle.account.specs.Rows.{records_from, records_of, header_in, header_of}
use Rattle.account.proofs.LineLaws.{records_some, records_none, same_record}
use Rattle.staff.specs.Row.{row_by, headed_by, row_past, row_through, walked_at}

-- ---- one record
pub active_is : (s : Result ℕ Stop) → result_unwrap_or s 0 ≡ active_after s
active_is (Ok n) = refl
active_is (Err e) = refl

outcome_row : (s : Result ℕ Stop) (cells : List ℕ) → row_of (take (active_after s) cells) ≡ row_by (outcome_of s cells)
unfolding row_of
outcome_row (Ok n) cells = refl
outcome_row (Err (Mixed c)) cells = refl
outcome_row (Err (Voiceless p)) cells = refl
outcome_row (Err (Wide n)) cells = refl

module _ (line cells cells' : List ℕ) {begun : Bool} {active r : ℕ} (room : length cells ≡ 512) (few : active ≤ 256) where
  pub star_behind : (s : Result ℕ Stop) → begun ≡ true → kind_of line ≡ Star → outcome_of s cells' ≡ step_row (row_of (take (min active 256) cells)) (record_tokens (min active 256) line)
      → active_after s ≤ 256 → r ≡ active_after s → (row_of (take r cells') ≡ row_past begun line (row_of (take active cells))) × (r ≤ 256)
  star_behind s b star e l is =
      let z : min active 256 ≡ active = omega arith in
      let w : length (row_of (take active cells)) ≡ active = row_length (take active cells) ∙ length-take-le active cells (omega arith) in
      (rw (b, star, w, is) (outcome_row s cells' ∙ ap row_by (rw z at e)), omega arith)

-- ---- the header's row
module _ (line : List ℕ) {n : ℕ} (count : n ≡ length (tokens_of line)) where
  pub headed_wide : 256 < n → (row_of [] ≡ headed_by line) × (0 ≤ 256)
  unfolding row_of
  headed_wide l = (rw (lt-ltb 256 (length (tokens_of line)) (omega arith)), omega arith)

-- ---- the lines of a text, as the library's `split` gives them
pub YieldsList-from_lines : {F : Type 0} {s : _} (g : Mut F (Bor ℕ × Unit {0}) Bool) {f : F} (text : List ℕ) → split_rest s ≡ text → split_done s ≡ false
    → split_callee s ≡ f → ((x : ℕ) (b : Bool) (q : F) → CalledAt g f x b q → (q ≡ f) × (b ≡ eqb x 10)) → YieldsList (split_steps g) (λ x. x.now) s (lines_of text)
YieldsList-from_lines {F} {s} g {f} text rest done callee calls =
    subst (λ (ts : List (List ℕ)). YieldsList (split_steps g) (λ x. x.now) s ts) (split_same 10 text)
    (YieldsList-from_slice_split g (λ x. eqb x 10) text rest done callee calls)

-- a turn and the end of a `for` over a list: the steps are known before the list is shown
module _ {S A B : Type 0} {steps : S → Option A → S → Type 0} {v : A → B} {s : S} {all : List B} (xs : List A) (t : S) (led : Yields steps s xs t) (r : Option A) (u : S) where
  pub item_is : (x : A) → r ≡ Some x → steps t r u → YieldsList steps v s all → (length xs < length all) × (v x ≡ get_or all (length xs) (v x))
  item_is x is step road = YieldsList-turn road xs t led r u x is step

  pub items_end : r ≡ None → steps t r u → YieldsList steps v s all → length xs ≡ length all
  items_end is step road = (YieldsList-end road xs t led r u is step).1

-- ---- the row through some lines, of which n are passed
pub record Walking (ls : List (List ℕ)) (cells : List ℕ) (begun : Bool) (active n : ℕ) : Type 0 where
  pub few : active ≤ 256
  pub row : row_through begun (row_of (take active cells)) (drop n ls) ≡ row_through false [] ls

pub walking_first : (ls : List (List ℕ)) (cells : List ℕ) → Walking ls cells false 0 0
unfolding row_of
walking_first ls cells = record { few = omega arith; row = refl }

module _ {ls : List (List ℕ)} {cells : List ℕ} {begun : Bool} {active n : ℕ} (inv : Walking ls cells begun active n) where
  pub walking_turn : {piece line : List ℕ} {kind : Kind} {cells' : List ℕ} {active' : ℕ} {begun' : Bool} → n < length ls → piece ≡ get_or ls n piece → line ≡ without_crs piece → kind ≡ kind_of line
      → (row_of (take active' cells') ≡ row_past begun line (row_of (take active cells))) × (active' ≤ 256) → begun' ≡ (begun || is_record_read kind) → Walking ls cells' begun' active' (n + 1)
  unfolding row_through
  walking_turn {piece} {line} {kind} {cells'} {active'} {begun'} h is is_line is_kind (e, l) b = record {
    few = l;
    row = rw (b, e, is_kind, is_line) (rw (drop-cons ls n piece h, ← is, ← add-one n) at inv.row);
  }

  pub walking_past : length ls ≤ n → (row_of (take active cells) ≡ row_through false [] ls) × (active ≤ 256)
  unfolding row_through
  walking_past h = (rw (drop_of_length-le ls h) at inv.row, inv.few)

-- ---- the header
-- of the line that is the header
abbrev pub heads : Option (List ℕ) → List Bool
heads None = []
heads (Some l) = map is_kern (tokens_of l)

heads_here : (k : ℕ) (l : List ℕ) (ls : List (List ℕ)) (b : Bool) → is_record_read (kind_of (without_crs l)) ≡ b → heads (find (λ (l : List ℕ). is_record_read (kind_of l)) (map without_crs ls)) ≡ header_in (records_from (k + 1) ls)
    → heads (cond b (Some (without_crs l)) (find (λ (l : List ℕ). is_record_read (kind_of l)) (map without_crs ls))) ≡ header_in (records_from k (l ∷ ls))
heads_here k l ls true e h = sym (ap header_in (records_some k l ls (sym (same_record (kind_of (without_crs l))) ∙ e)))
heads_here k l ls false e h = h ∙ sym (ap header_in (records_none k l ls (sym (same_record (kind_of (without_crs l))) ∙ e)))

-- a line by its number, where none is empty
got_or : (ls : List (List ℕ)) (k : ℕ) → unwrap_or (slice_get ls k) [] ≡ get_or ls k []
got_or [] zero = refl
got_or [] (suc k) = refl
got_or (l ∷ ls) zero = refl
got_or (l ∷ ls) (suc k) = got_or ls k

pub line_or : (o : Option (Bor (List ℕ))) (d : Bor (List ℕ)) (ls : List (List ℕ)) (k : ℕ) → option_map (λ (y : Bor (List ℕ)). y.now) o ≡ slice_get ls k → d.now ≡ [] → (unwrap_or o d).now ≡ get_or ls k []
line_or o d ls k e z = go o ∙ ap (λ (m : Option (List ℕ)). unwrap_or m []) e ∙ got_or ls k
  where
    go : (o : Option (Bor (List ℕ))) → (unwrap_or o d).now ≡ unwrap_or (option_map (λ (y : Bor (List ℕ)). y.now) o) []
    go None = z
    go (Some x) = refl

pub column_or : (o : Option ℕ) → unwrap_or o 0 ≡ or_zero o
column_or None = refl
column_or (Some c) = refl

-- no column of no header
pub by_none : (q : ℕ) → 0 ≡ kern_column 0 q []
unfolding kern_column
by_none zero = refl
by_none (suc q) = refl

-- the first record is found among the lines
heads_from : (k : ℕ) (ls : List (List ℕ)) → heads (find (λ (l : List ℕ). is_record_read (kind_of l)) (map without_crs ls)) ≡ header_in (records_from k ls)
unfolding records_from
heads_from k [] = refl
heads_from k (l ∷ ls) = heads_here k l ls (is_record_read (kind_of (without_crs l))) refl (heads_from (k + 1) ls)

pub heads_of : (text : List ℕ) {r : Option (List ℕ)} → r ≡ find (λ (l : List ℕ). is_record_read (kind_of l)) (map without_crs (lines_of text)) → heads r ≡ header_of text
unfolding records_of
heads_of text e = ap heads e ∙ heads_from 0 (lines_of text)

-- ---- the record on line k
pub walked_there : (text : List ℕ) (k : ℕ) (cells : List ℕ) (active : ℕ) {line : List ℕ} (part : ℕ) {header : ℕ} {hs : List Holder}
    → row_of (take active cells) ≡ row_through false [] (take (k - 1) (lines_of text)) → line ≡ without_crs (get_or (lines_of text) (k - 1) []) → header ≡ kern_column 0 part (header_of text)
    → hs ≡ walked part header (record_tokens (length (take active cells)) line) (row_of (take active cells)) → hs ≡ walked_at text k part
unfolding walked_at
walked_there text k cells active {line} part {header} {hs} r is_line is_header e = rw (← r, row_length (take active cells), ← is_line, ← is_header) e
