-- The header's tokens one by one: the table of active spines, and the first row.
use mathlib.Core.Path.{◌≡◌, refl, sym, ap, ap₂, subst, ◌∙◌}
use Prim.Native.Nat.{ℕ, zero, suc, ◌+◌, ◌≤◌, ◌<◌}
use native.Mathlib.Nat.{add-zero, zero-add}
use native.Mathlib.Numerals.{add-one}
use native.Mathlib.Omega.{arith}
use mathlib.Core.Bool.{Bool, true, false}
use mathlib.Core.List.{List, [], ◌∷◌, ◌++◌, map, append_assoc, append-nil}
use denote.Ref.{Bor}
use denote.Param.Members.{Mut}
use lib.Dec.{eqb}
use lib.ListN.{length, get_or, take, drop, set, replicate, length-set, get_or-map, drop_of_length-le}
use lib.Seq.{take-suc, take-suc-set, get_or-set_other, drop-cons}
use Rattle.std.specs.List.{enumerate_from}
use Rattle.std.specs.Fn.{CalledAt}
use Rattle.std.specs.Iterator.{Yields}
use Rattle.std.specs.Iterator.Adapters.{enumerate_source, enumerate_count, enumerate_steps}
use Rattle.std.specs.Slice.Iter.{split_steps, split_rest, split_done, split_callee}
use Rattle.std.proofs.lemmas.Iterator.{YieldsList}
use Rattle.std.proofs.lemmas.Iterator.Consumers.{YieldsList-from_enumerate, YieldsList-turn, YieldsList-end}
use Rattle.std.proofs.lemmas.List.{length-replicate, set-get_or}
use Rattle.std.proofs.lemmas.List.FromFn.{length-enumerate_from, get_or-enumerate_from}
use Rattle.lines.specs.Tokens.{tokens_of, is_kern}
use Rattle.lines.proofs.ChainLaws.{YieldsList-from_tokens}
use Rattle.paths.specs.declared.Spine.{Spine}
use Rattle.paths.specs.declared.Spine.TheVariants.{Line, Outside}
use Rattle.paths.specs.Text.{header_from, header_row}
use Rattle.spines.specs.Cells.{spine_of, row_of}
use Rattle.spines.specs.Table.{active_at, cell_of, cells_of}
use Rattle.std.proofs.Common.{Option, Some, None}
use Rattle.spines.specs.declared.active.Line.{Line as ActiveLine}
use Rattle.spines.proofs.CellLaws.{row_append}
use Rattle.spines.proofs.TableLaws.{cells_length, cells_set, cell_says}
use Rattle.reading.specs.Header.{fresh_parts, any_kern}
use Rattle.header.specs.Columns.{HeaderTable, Voiced}

-- ---- a column
pub column_kern : (t : List ℕ) (p : ℕ) (a : ActiveLine) → a.part ≡ p → a.voice ≡ 0 → is_kern t ≡ true
    → (spine_of (cell_of (Some a)) ∷ [] ≡ header_from p (is_kern t ∷ [])) × (p + 1 ≡ p + length (fresh_parts p (is_kern t ∷ [])))
unfolding header_from fresh_parts
column_kern t p a is_part is_voice k = rw k (ap (λ (x : Spine). x ∷ []) (cell_says (Some a) (omega (arith, is_voice)) ∙ ap₂ Line is_part is_voice), refl)

pub column_other : (t : List ℕ) (p : ℕ) → is_kern t ≡ false
    → (spine_of (cell_of None) ∷ [] ≡ header_from p (is_kern t ∷ [])) × (p ≡ p + length (fresh_parts p (is_kern t ∷ [])))
unfolding header_from fresh_parts
column_other t p k = rw k (ap (λ (x : Spine). x ∷ []) (cell_says None tt), sym (add-zero p))

-- a column in front of others
header_more : (b : Bool) (p : ℕ) (ks : List Bool) → header_from p (b ∷ ks) ≡ header_from p (b ∷ []) ++ header_from (p + length (fresh_parts p (b ∷ []))) ks
unfolding header_from fresh_parts
header_more true p ks = ap (λ (n : ℕ). Line p 0 ∷ header_from n ks) (sym (add-one p))
header_more false p ks = ap (λ (n : ℕ). Outside ∷ header_from n ks) (sym (add-zero p))

fresh_more : (b : Bool) (p : ℕ) (ks : List Bool)
    → length (fresh_parts p (b ∷ ks)) ≡ length (fresh_parts p (b ∷ [])) + length (fresh_parts (p + length (fresh_parts p (b ∷ []))) ks)
unfolding fresh_parts
fresh_more true p ks = rw (add-one p) (omega arith)
fresh_more false p ks = rw (add-zero p) (omega arith)

fresh_one : (b : Bool) (p : ℕ) → length (fresh_parts p (b ∷ [])) ≤ 1
unfolding fresh_parts
fresh_one true p = omega arith
fresh_one false p = omega arith

-- a token and its number, as a loop over the tokens is given them
pub token_turn : (ts : List (List ℕ)) {n i : ℕ} {x : List ℕ} → (n < length (enumerate_from 0 ts)) × ((i, x) ≡ get_or (enumerate_from 0 ts) n (i, x))
    → (n < length ts) × ((i ≡ n) × (x ≡ get_or ts n x))
token_turn ts {n} {i} {x} t =
    let lt : n < length ts = omega (arith, t.0, length-enumerate_from 0 ts) in
    let e : (i, x) ≡ (0 + n, get_or ts n x) = t.1 ∙ get_or-enumerate_from 0 ts n (i, x) lt in
    (lt, (ap (λ (p : ℕ × List ℕ). p.0) e ∙ zero-add n, ap (λ (p : ℕ × List ℕ). p.1) e))

-- such a loop, over `line.split(|b| *b == b'\t').enumerate()`, which has given xs: its next turn, and its end
module _ {F : Type 0} (g : Mut F (Bor ℕ × Unit {0}) Bool) {f : F} (s : _) (line : List ℕ)
    (starts : (split_rest (enumerate_source s) ≡ line) × (split_done (enumerate_source s) ≡ false) × (split_callee (enumerate_source s) ≡ f) × (enumerate_count s ≡ 0)
    × ((x : ℕ) (b : Bool) (q : F) → CalledAt g f x b q → (q ≡ f) × (b ≡ eqb x 9))) where
  road : YieldsList {B = ℕ × List ℕ} (enumerate_steps (split_steps g)) (λ p. (p.0, p.1.now)) s (enumerate_from 0 (tokens_of line))
  road = YieldsList-from_enumerate (YieldsList-from_tokens g line starts.0 starts.1 starts.2 starts.4) starts.3

  module _ (xs : List (ℕ × Bor (List ℕ))) (t u : _) (given : Yields (enumerate_steps (split_steps g)) s xs t) (r : Option (ℕ × Bor (List ℕ))) (step : enumerate_steps (split_steps g) t r u) where
    pub numbered_turn : {i : ℕ} {x : Bor (List ℕ)} → r ≡ Some (i, x) → (length xs < length (tokens_of line)) × ((i ≡ length xs) × (x.now ≡ get_or (tokens_of line) (length xs) x.now))
    numbered_turn {i} {x} is = token_turn (tokens_of line) (YieldsList-turn road xs t given r u (i, x) is step)

    pub numbered_end : r ≡ None → length xs ≡ length (tokens_of line)
    numbered_end is = (YieldsList-end road xs t given r u is step).1 ∙ length-enumerate_from 0 (tokens_of line)

-- ---- the table: the spines of the first n tokens are written, with p parts
pub record Filling (ts : List (List ℕ)) (spines : List (Option ActiveLine)) (n p : ℕ) : Type 0 where
  pub kept : length spines ≡ 256
  pub low : p ≤ n
  pub clear : (k : ℕ) → n ≤ k → active_at spines k ≡ None
  pub same : row_of (take n (cells_of spines)) ++ header_from p (map is_kern (drop n ts)) ≡ header_row (map is_kern ts)
  pub fresh : p + length (fresh_parts p (map is_kern (drop n ts))) ≡ length (fresh_parts 0 (map is_kern ts))

none_at : (m k : ℕ) → active_at (replicate m None) k ≡ None
none_at zero k = refl
none_at (suc m) zero = refl
none_at (suc m) (suc k) = none_at m k

pub filling_first : (ts : List (List ℕ)) → Filling ts (replicate 256 None) 0 0
unfolding row_of
filling_first ts = record {
  kept = length-replicate {A = Option ActiveLine} 256 None;
  low = omega arith;
  clear = λ k h. none_at 256 k;
  same = refl;
  fresh = zero-add (length (fresh_parts 0 (map is_kern ts)));
}

module _ {ts : List (List ℕ)} {spines : List (Option ActiveLine)} {n p : ℕ} (inv : Filling ts spines n p) (few : length ts ≤ 256) (lt : n < length ts) (x : List ℕ) (is : x ≡ get_or ts n x) where
  here : drop n ts ≡ x ∷ drop (n + 1) ts
  here = drop-cons ts n x lt ∙ ap₂ (λ (y : List ℕ) (k : ℕ). y ∷ drop k ts) (sym is) (sym (add-one n))

  module _ (a : Option ActiveLine) {q : ℕ} (col : (spine_of (cell_of a) ∷ [] ≡ header_from p (is_kern x ∷ [])) × (q ≡ p + length (fresh_parts p (is_kern x ∷ [])))) where
    filling_turn : Filling ts (set spines n a) (n + 1) q
    unfolding row_of
    filling_turn =
        let b = is_kern x in
        let ks = map is_kern (drop (n + 1) ts) in
        let row = cells_of spines in
        let c = cell_of a in
        let m : header_from p (map is_kern (drop n ts)) ≡ header_from p (b ∷ ks) = ap (λ (l : List (List ℕ)). header_from p (map is_kern l)) here in
        let f : length (fresh_parts p (map is_kern (drop n ts))) ≡ length (fresh_parts p (b ∷ ks)) = ap (λ (l : List (List ℕ)). length (fresh_parts p (map is_kern l))) here in
        let w : take (n + 1) (cells_of (set spines n a)) ≡ take n row ++ (c ∷ []) =
        ap₂ take (add-one n) (cells_set spines n a) ∙ take-suc-set row n c (omega (arith, inv.kept, cells_length spines)) in
        record {
          kept = length-set spines n a ∙ inv.kept;
          low = omega (arith, inv.low, col.1, fresh_one b p);
          clear = λ k h. get_or-set_other spines n k a None (λ e. omega arith) ∙ inv.clear k (omega arith);
          same =
              ap₂ (λ (l : List ℕ) (i : ℕ). row_of l ++ header_from i ks) w col.1
              ∙ ap (λ (l : List Spine). l ++ header_from (p + length (fresh_parts p (b ∷ []))) ks) (row_append (take n row) (c ∷ []))
              ∙ append_assoc (row_of (take n row)) (spine_of c ∷ []) (header_from (p + length (fresh_parts p (b ∷ []))) ks)
              ∙ ap (λ (l : List Spine). row_of (take n row) ++ (l ++ header_from (p + length (fresh_parts p (b ∷ []))) ks)) col.0
              ∙ ap (λ (l : List Spine). row_of (take n row) ++ l) (sym (m ∙ header_more b p ks))
              ∙ inv.same;
          fresh = omega (arith, inv.fresh, f, fresh_more b p ks, col.1, ap (λ (i : ℕ). length (fresh_parts i ks)) col.1);
        }

  -- a kern token's spine is written; one outside kern stays as it was
  pub filling_kern : {i m : ℕ} (a : ActiveLine) → i ≡ n → m ≡ n + 1 → a.part ≡ p → a.voice ≡ 0 → is_kern x ≡ true → Filling ts (set spines i (Some a)) m (p + 1)
  filling_kern {i} {m} a is_column is_next is_part is_voice e = rw (is_column, is_next) (filling_turn (Some a) (column_kern x p a is_part is_voice e))

  pub filling_other : is_kern x ≡ false → Filling ts spines (n + 1) p
  filling_other e =
      let same : set spines n None ≡ spines = ap (set spines n) (sym (inv.clear n (omega arith))) ∙ set-get_or spines n None in
      subst (λ (l : List (Option ActiveLine)). Filling ts l (n + 1) p) same (filling_turn None (column_other x p e))

pub filling_past : {ts : List (List ℕ)} {spines : List (Option ActiveLine)} {n p : ℕ} → Filling ts spines n p → n ≡ length ts → HeaderTable ts spines p
unfolding header_from fresh_parts
filling_past {ts} {spines} {n} {p} inv h =
    let none : drop n ts ≡ [] = drop_of_length-le ts {i = n} (omega arith) in
    record {
      few = omega (arith, inv.low);
      row =
          ap (λ (k : ℕ). row_of (take k (cells_of spines))) (sym h)
          ∙ sym (append-nil (row_of (take n (cells_of spines))))
          ∙ ap (λ (l : List (List ℕ)). row_of (take n (cells_of spines)) ++ header_from p (map is_kern l)) (sym none)
          ∙ inv.same;
      parts = omega (arith, inv.fresh, ap (λ (l : List (List ℕ)). length (fresh_parts p (map is_kern l))) none);
    }

-- each line that is written has voice 0
pub voiced_first : (k : ℕ) → Voiced (active_at (replicate 256 None) k)
voiced_first k = subst Voiced (sym (none_at 256 k)) tt

pub voiced_turn : (spines : List (Option ActiveLine)) (i k : ℕ) (a : Option ActiveLine) → Voiced a → Voiced (active_at spines k) → Voiced (active_at (set spines i a) k)
voiced_turn [] i k a new old = old
voiced_turn (x ∷ spines) zero zero a new old = new
voiced_turn (x ∷ spines) zero (suc k) a new old = old
voiced_turn (x ∷ spines) (suc i) zero a new old = old
voiced_turn (x ∷ spines) (suc i) (suc k) a new old = voiced_turn spines i k a new old

-- ---- the row: i cells are written
pub cells_at : (l : List (Option ActiveLine)) (i : ℕ) → get_or (cells_of l) i 0 ≡ cell_of (active_at l i)
unfolding cells_of cell_of
cells_at l i = get_or-map cell_of l i None

abbrev pub Laying : List (Option ActiveLine) → List ℕ → ℕ → Type 0
Laying table row i = take i row ≡ take i (cells_of table)

pub laying_turn : (table : List (Option ActiveLine)) (row : List ℕ) {i c : ℕ} → Laying table row i → i < length row → length row ≤ length table
    → c ≡ cell_of (active_at table i) → Laying table (set row i c) (i + 1)
laying_turn table row {i} {c} inv h few e =
    ap (λ (k : ℕ). take k (set row i c)) (add-one i)
    ∙ take-suc-set row i c h
    ∙ ap₂ (λ (x : List ℕ) (y : ℕ). x ++ (y ∷ [])) inv (e ∙ sym (cells_at table i))
    ∙ sym (ap (λ (k : ℕ). take k (cells_of table)) (add-one i) ∙ take-suc (cells_of table) i 0 (omega (arith, cells_length table)))

-- question 5: no part, no `**kern`
pub any_none : (p : ℕ) (ks : List Bool) → length (fresh_parts p ks) ≡ 0 → any_kern ks ≡ false
unfolding fresh_parts any_kern
any_none p [] e = refl
any_none p (true ∷ ks) e = absurd (omega arith)
any_none p (false ∷ ks) e = any_none p ks e

pub any_some : (p : ℕ) (ks : List Bool) → (length (fresh_parts p ks) ≡ 0 → ⊥) → any_kern ks ≡ true
unfolding fresh_parts any_kern
any_some p [] e = absurd (e refl)
any_some p (true ∷ ks) e = refl
any_some p (false ∷ ks) e = any_some p ks e
