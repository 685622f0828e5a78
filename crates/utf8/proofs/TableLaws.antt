-- The table of RFC 3629: a byte leads at most one of its rows, so a row that a text begins with is its character.
use mathlib.Core.Path.{◌≡◌, refl, sym, ap, ◌∙◌, subst}
use mathlib.Core.Bool.{Bool, true, false, cond, ◌&&◌, false≢true}
use mathlib.Core.List.{List, [], ◌∷◌, ◌++◌, Memᴰ}
use Prim.Native.Nat.{ℕ, suc, ◌≤◌, ◌<◌}
use native.Mathlib.Nat.{not-suc-le-zero}
use native.Mathlib.Omega.{arith}
use lib.Dec.{leb}
use lib.ListN.{length, take, drop, take-append-drop}
use borrow.Author.Tests.{le-leb, lt-leb, leb-true, leb-false}
use Rattle.utf8.specs.Utf8.{Range, table, begins, first_of, char_length}
use Rattle.utf8.specs.WellFormed.{Spells, none, byte}

begins_in : {r : Range} {b : ℕ} → r.0 ≤ b → b ≤ r.1 → (rs : List Range) (s : List ℕ) → begins (r ∷ rs) (b ∷ s) ≡ begins rs s
unfolding begins
begins_in {r} {b} low high rs s = rw (le-leb r.0 b low, le-leb b r.1 high)

pub begins_out : (r : Range) (b : ℕ) (rs : List Range) (s : List ℕ) → (r.0 ≤ b → r.1 < b) → begins (r ∷ rs) (b ∷ s) ≡ false
unfolding begins
begins_out r b rs s out = go (leb r.0 b) refl
  where
    go : (t : Bool) → leb r.0 b ≡ t → (t && leb b r.1 && begins rs s) ≡ false
    go true e = rw (lt-leb b r.1 (out (leb-true r.0 b e)))
    go false e = refl

-- no row begins with the byte b
abbrev pub Out : List (List Range) → ℕ → Type 0
Out [] b = Unit
Out ([] ∷ rows) b = ⊥
Out ((r ∷ rs) ∷ rows) b = (r.0 ≤ b → r.1 < b) × Out rows b

-- no byte begins two rows
abbrev Apart : List (List Range) → Type 0
Apart [] = Unit
Apart ([] ∷ rows) = ⊥
Apart ((r ∷ rs) ∷ rows) = ((b : ℕ) → r.0 ≤ b → b ≤ r.1 → Out rows b) × Apart rows

apart : Apart table
unfolding table
apart =
    let from-four : Apart (drop 4 table) = omega arith in
    (omega arith, (omega arith, (omega arith, (omega arith, from-four))))

miss : (rows : List (List Range)) (b : ℕ) (s : List ℕ) → Out rows b → first_of rows (b ∷ s) ≡ 0
unfolding first_of
miss [] b s o = refl
miss ([] ∷ rows) b s o = absurd o
miss ((r ∷ rs) ∷ rows) b s o = rw (begins_out r b rs s o.0) (miss rows b s o.1)

out_rest : (x : List Range) (rows : List (List Range)) (b : ℕ) → Out (x ∷ rows) b → Out rows b
out_rest [] rows b o = absurd o
out_rest (r ∷ rs) rows b o = o.1

-- a row that begins with b is not among rows none of which does
none_of : {r : Range} {rs : List Range} {rows : List (List Range)} → Memᴰ (r ∷ rs) rows → (b : ℕ) → Out rows b → r.0 ≤ b → r.1 < b
none_of (Memᴰ.head {xs = xs} e) b o low = (subst (λ (y : List Range). Out (y ∷ xs) b) (sym e) o).0 low
none_of (Memᴰ.tail {x = x} {xs = xs} m) b o low = none_of m b (out_rest x xs b o) low

-- the row that a byte b leads decides
lead : {r : Range} {rs : List Range} {rows : List (List Range)} → Memᴰ (r ∷ rs) rows → Apart rows → (b : ℕ) (s : List ℕ) → r.0 ≤ b → b ≤ r.1
    → first_of rows (b ∷ s) ≡ cond (begins rs s) (suc (length rs)) 0
unfolding first_of
lead {r} {rs} (Memᴰ.head {x = x} {xs = xs} e) a b s low high =
    let o : Out xs b = (subst (λ (y : List Range). Apart (y ∷ xs)) (sym e) a).0 b low high in
    rw (← e, begins_in low high rs s, miss xs b s o)
lead {r} {rs} (Memᴰ.tail {x = []} {xs = xs} m) a b s low high = absurd a
lead {r} {rs} (Memᴰ.tail {x = q ∷ qs} {xs = xs} m) a b s low high = rw (begins_out q b qs s out) (lead m a.1 b s low high)
  where
    out : q.0 ≤ b → q.1 < b
    out l = go (leb b q.1) refl
      where
        go : (t : Bool) → leb b q.1 ≡ t → q.1 < b
        go true e = let no : r.1 < b = none_of m b (a.0 b l (leb-true b q.1 e)) low in omega arith
        go false e = leb-false b q.1 e

-- the character that a byte b leads is that of its row
pub char_lead : {r : Range} {rs : List Range} → Memᴰ (r ∷ rs) table → (b : ℕ) (s : List ℕ) → r.0 ≤ b → b ≤ r.1
    → char_length (b ∷ s) ≡ cond (begins rs s) (suc (length rs)) 0
unfolding char_length
char_lead m b s low high = lead m apart b s low high

-- a byte that leads no row
pub char_miss : (b : ℕ) (s : List ℕ) → Out table b → char_length (b ∷ s) ≡ 0
unfolding char_length
char_miss b s o = miss table b s o

no_empty : {row : List Range} {rows : List (List Range)} → Memᴰ row rows → Apart rows → row ≡ [] → ⊥
no_empty (Memᴰ.head {xs = xs} e) a z = subst (λ (y : List Range). Apart (y ∷ xs)) (sym e ∙ z) a
no_empty (Memᴰ.tail {x = []} m) a z = a
no_empty (Memᴰ.tail {x = q ∷ qs} m) a z = no_empty m a.1 z

spells_begins : {row : List Range} {c : List ℕ} → Spells row c → (t : List ℕ) → begins row (c ++ t) ≡ true
unfolding begins
spells_begins none t = refl
spells_begins (byte {rs = rs} {s = s} low high c) t = begins_in low high rs (s ++ t) ∙ spells_begins c t

spells_length : {row : List Range} {c : List ℕ} → Spells row c → length c ≡ length row
spells_length none = refl
spells_length (byte low high c) = ap suc (spells_length c)

-- a row of the table is the character of each text that begins with it
pub char_of : {row : List Range} {c : List ℕ} → Memᴰ row table → Spells row c → (t : List ℕ) → char_length (c ++ t) ≡ length c
char_of m none t = absurd (no_empty m apart refl)
char_of m (byte {rs = rs} {b = b} {s = s} low high c) t =
    char_lead m b (s ++ t) low high ∙ rw (spells_begins c t) (ap suc (sym (spells_length c)))

pub char_pos : {row : List Range} {c : List ℕ} → Memᴰ row table → Spells row c → 0 < length c
char_pos m none = absurd (no_empty m apart refl)
char_pos m (byte {s = s} low high c) = omega arith

-- ---- what a text begins with
begins_both : (r : Range) (b : ℕ) (rs : List Range) (s : List ℕ) → begins (r ∷ rs) (b ∷ s) ≡ true → (r.0 ≤ b) × ((b ≤ r.1) × (begins rs s ≡ true))
unfolding begins
begins_both r b rs s e = go (leb r.0 b) (leb b r.1) refl refl e
  where
    go : (p q : Bool) → leb r.0 b ≡ p → leb b r.1 ≡ q → (p && q && begins rs s) ≡ true → (r.0 ≤ b) × ((b ≤ r.1) × (begins rs s ≡ true))
    go true true low high f = (leb-true r.0 b low, (leb-true b r.1 high, f))
    go true false low high f = absurd (false≢true f)
    go false q low high f = absurd (false≢true f)

begins_spells : (row : List Range) (s : List ℕ) → begins row s ≡ true → Spells row (take (length row) s)
unfolding begins
begins_spells [] s e = none
begins_spells (r ∷ rs) [] e = absurd (false≢true e)
begins_spells (r ∷ rs) (b ∷ s) e =
    let h : (r.0 ≤ b) × ((b ≤ r.1) × (begins rs s ≡ true)) = begins_both r b rs s e in
    byte h.0 h.1.0 (begins_spells rs s h.1.1)

begins_fits : (row : List Range) (s : List ℕ) → begins row s ≡ true → length row ≤ length s
unfolding begins
begins_fits [] s e = omega arith
begins_fits (r ∷ rs) [] e = absurd (false≢true e)
begins_fits (r ∷ rs) (b ∷ s) e = let h : length rs ≤ length s = begins_fits rs s (begins_both r b rs s e).1.1 in omega arith

-- a row that a text begins with is its character
pub char_begins : {row : List Range} → Memᴰ row table → (s : List ℕ) → begins row s ≡ true → char_length s ≡ length row
char_begins {row} m s e =
    let spelled : Spells row (take (length row) s) = begins_spells row s e in
    ap char_length (sym (take-append-drop (length row) s)) ∙ char_of m spelled (drop (length row) s) ∙ spells_length spelled

-- the row that stands at the front of a text, of n bytes
pub record Front (rows : List (List Range)) (s : List ℕ) (n : ℕ) : Type 0 where
  pub row : List Range
  pub listed : Memᴰ row rows
  pub spelled : Spells row (take n s)
  pub inside : n ≤ length s

pub front : (rows : List (List Range)) (s : List ℕ) (n : ℕ) → first_of rows s ≡ n → 0 < n → Front rows s n
unfolding first_of
front [] s n e pos = absurd (not-suc-le-zero {n = 0} (omega arith))
front (x ∷ rows) s n e pos = go (begins x s) refl (λ (f : first_of rows s ≡ n). front rows s n f pos) e
  where
    go : (t : Bool) → begins x s ≡ t → (first_of rows s ≡ n → Front rows s n) → cond t (length x) (first_of rows s) ≡ n → Front (x ∷ rows) s n
    go true h more f = record {
      row = x;
      listed = Memᴰ.head refl;
      spelled = subst (λ (m : ℕ). Spells x (take m s)) f (begins_spells x s h);
      inside = subst (λ (m : ℕ). m ≤ length s) f (begins_fits x s h);
    }
    go false h more f =
        let r : Front rows s n = more f in
        record { row = r.row; listed = Memᴰ.tail r.listed; spelled = r.spelled; inside = r.inside }

-- ---- no row has over 4 bytes
abbrev Short : List (List Range) → Type 0
Short [] = Unit
Short (x ∷ rows) = (length x ≤ 4) × Short rows

most : (rows : List (List Range)) (s : List ℕ) → Short rows → first_of rows s ≤ 4
unfolding first_of
most [] s h = omega arith
most (x ∷ rows) s h = go (begins x s) (most rows s h.1)
  where
    go : (t : Bool) → first_of rows s ≤ 4 → cond t (length x) (first_of rows s) ≤ 4
    go true m = h.0
    go false m = m

pub char_most : (s : List ℕ) → char_length s ≤ 4
unfolding char_length table
char_most s = most table s (omega arith)
