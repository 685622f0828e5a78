-- Every row that the reading of a text reaches: its voices, its parts and its size, by induction over the records.
use mathlib.Core.Path.{◌≡◌, refl, sym, ap, ◌∙◌, subst}
use mathlib.Core.Bool.{Bool, true, false, cond}
use mathlib.Core.List.{List, [], ◌∷◌}
use mathlib.Core.Option.{Option, none, some, bind}
use Prim.Native.Nat.{ℕ, zero, suc, ◌+◌, ◌≤◌, ◌<◌, min}
use native.Mathlib.Omega.{arith}
use native.Mathlib.Decide.{ℕ_discrete}
use lib.ListN.{length, get_or}
use Rattle.slices.proofs.TestLaws.{clash}
use Rattle.paths.specs.Record.{Rec, star, plain}
use Rattle.paths.specs.Row.{spine_at, part_at}
use Rattle.paths.specs.declared.Spine.{Spine}
use Rattle.paths.specs.declared.Spine.TheVariants.{Line}
use Rattle.paths.specs.Trace.{origin_in, column_of, trace, Ending, ending, opens, kerns_before, part_from, made_in, parts_to, opened_part, part_at_end, end_part, part, columns, width_in}
use Rattle.paths.specs.Text.{header_from, header_row, Reading, reached, ended, refused, take_record, and_then, read_to}
use Rattle.paths.proofs.Counts.{same, same_no, same_le, total, at, of_branch, high, low_bit}
use Rattle.paths.proofs.VoiceLaws.{Sound}
use Rattle.paths.proofs.StepLaws.{RecordIs, record_is, takes_sound, takes_part, takes_length}

-- ---- the header

header_below : (h : List Bool) (n p v : ℕ) → p < n → total (at p v) (header_from n h) ≡ 0
unfolding total header_from
header_below [] n p v l = refl
header_below (true ∷ h) n p v l = omega (arith, same_no p n (omega arith), header_below h (suc n) p v (omega arith))
header_below (false ∷ h) n p v l = omega (arith, header_below h n p v l)

header_once : (h : List Bool) (n p v : ℕ) → total (at p v) (header_from n h) ≤ 1
unfolding total header_from
header_once [] n p v = omega arith
header_once (true ∷ h) n p v = go (header_once h (suc n) p v) (ℕ_discrete p n)
  where
    go : total (at p v) (header_from (suc n) h) ≤ 1 → Dec (p ≡ n) → min (same p n) (same v 0) + total (at p v) (header_from (suc n) h) ≤ 1
    go i (yes e) = omega (arith, same_le p n, header_below h (suc n) p v (omega arith))
    go i (no e) = omega (arith, same_no p n e)
header_once (false ∷ h) n p v = omega (arith, header_once h n p v)

header_low : (h : List Bool) (n : ℕ) → total high (header_from n h) ≡ 0
unfolding total header_from
header_low [] n = refl
header_low (true ∷ h) n = omega (arith, low_bit 0 (omega arith), header_low h (suc n))
header_low (false ∷ h) n = omega (arith, header_low h n)

header_settled : (h : List Bool) (n p : ℕ) → total (of_branch p) (header_from n h) ≡ 0
unfolding total header_from
header_settled [] n p = refl
header_settled (true ∷ h) n p = omega (arith, header_settled h (suc n) p)
header_settled (false ∷ h) n p = omega (arith, header_settled h n p)

header_sound : (h : List Bool) → Sound (header_row h)
header_sound h = record { once = header_once h 0; low = header_low h 0; settled = header_settled h 0 }

pub header_length : (n : ℕ) (h : List Bool) → length (header_from n h) ≡ length h
unfolding header_from
header_length n [] = refl
header_length n (true ∷ h) = ap suc (header_length (suc n) h)
header_length n (false ∷ h) = ap suc (header_length n h)

header_from_lem : (h : List Bool) (n k : ℕ) → part_at (header_from n h) k ≡ cond (get_or h k false) (some (n + kerns_before h k)) none
unfolding part_at header_from kerns_before
header_from_lem [] n k = refl
header_from_lem (true ∷ h) n zero = ap (λ (x : ℕ). some x) (omega arith)
header_from_lem (true ∷ h) n (suc k) = let e : suc n + kerns_before h k ≡ n + suc (kerns_before h k) = omega arith in rw (← e) (header_from_lem h (suc n) k)
header_from_lem (false ∷ h) n zero = refl
header_from_lem (false ∷ h) n (suc k) = header_from_lem h n k

header_part_lem : (h : List Bool) (k : ℕ) → part_at (header_row h) k ≡ part_from 0 h k
unfolding part_from
header_part_lem h k = header_from_lem h 0 k

pub header_voice : (h : List Bool) (n j p v : ℕ) → spine_at (header_from n h) j ≡ Line p v → v ≡ 0
unfolding header_from
header_voice [] n j p v e = clash cc
header_voice (true ∷ h) n zero p v e = cc
header_voice (true ∷ h) n (suc j) p v e = header_voice h (suc n) j p v e
header_voice (false ∷ h) n zero p v e = clash cc
header_voice (false ∷ h) n (suc j) p v e = header_voice h n j p v e

-- ---- the parts of ends

kerns_below : (h : List Bool) (k : ℕ) → get_or h k false ≡ true → kerns_before h k < kerns_before h (length h)
unfolding kerns_before
kerns_below [] k e = clash cc
kerns_below (true ∷ h) zero e = omega arith
kerns_below (true ∷ h) (suc k) e = omega (arith, kerns_below h k e)
kerns_below (false ∷ h) zero e = clash cc
kerns_below (false ∷ h) (suc k) e = kerns_below h k e

from_below : (p : ℕ) (h : List Bool) (k q : ℕ) → part_from p h k ≡ some q → q < p + kerns_before h (length h)
unfolding part_from
from_below p h k q e = go (get_or h k false) refl e
  where
    go : (b : Bool) → get_or h k false ≡ b → cond b (some (p + kerns_before h k)) none ≡ some q → q < p + kerns_before h (length h)
    go true t x = let y : p + kerns_before h k ≡ q = cc in omega (arith, kerns_below h k t)
    go false t x = clash cc

opened_below : (p : ℕ) (x : Rec) (j q : ℕ) → opened_part p x j ≡ some q → q < p + made_in x
opened_below p (star ts) j q e = clash cc
opened_below p (plain k) j q e = clash cc

none_opens : (x : Rec) (j : ℕ) → opens x j ≡ false
none_opens (star ts) j = refl
none_opens (plain k) j = refl

-- ---- every text

-- what holds of a row that is reached
abbrev pub OnRow : (List Spine → Type 0) → Reading → Type 0
OnRow P (reached row) = P row
OnRow P ended = Unit {0}
OnRow P (refused q f) = Unit {0}

bind_assoc : (o : Option ℕ) (f : ℕ → Option Ending) (g : Ending → Option ℕ) → bind (bind o f) g ≡ bind o (λ x. bind (f x) g)
unfolding bind
bind_assoc none f g = refl
bind_assoc (some x) f g = refl

pub bind_ext : (o : Option ℕ) (f g : ℕ → Option ℕ) → ((x : ℕ) → f x ≡ g x) → bind o f ≡ bind o g
unfolding bind
bind_ext none f g e = refl
bind_ext (some x) f g e = e x

module _ (h : List Bool) (recs : ℕ → Rec) where
  -- the row after n records: its voices, and its parts and its size as the text says
  pub record Held (n : ℕ) (row : List Spine) : Type 0 where
    pub sound : Sound row
    pub parts : (j : ℕ) → part_at row j ≡ part h recs n j
    pub size : length row ≡ columns h recs n

  pub part_zero : (j : ℕ) → part h recs 0 j ≡ part_from 0 h j
  unfolding part trace bind part_at_end
  part_zero j = refl

  -- the part of a column that record n begins, or that comes from another
  pub part_step : (n j : ℕ) → part h recs (suc n) j ≡ cond (opens (recs n) j) (opened_part (parts_to h recs n) (recs n) j) (bind (column_of (origin_in (recs n) j)) (part h recs n))
  unfolding part trace bind part_at_end
  part_step n j = go (opens (recs n) j)
    where
      go : (b : Bool) → bind (cond b (some (ending (suc n) j)) (bind (column_of (origin_in (recs n) j)) (trace recs n))) (end_part h recs)
          ≡ cond b (opened_part (parts_to h recs n) (recs n) j) (bind (column_of (origin_in (recs n) j)) (part h recs n))
      go true = refl
      go false = bind_assoc (column_of (origin_in (recs n) j)) (trace recs n) (end_part h recs)

  pub part_on : (n j : ℕ) → opens (recs n) j ≡ false → part h recs (suc n) j ≡ bind (column_of (origin_in (recs n) j)) (part h recs n)
  part_on n j e = part_step n j ∙ ap (λ (b : Bool). cond b (opened_part (parts_to h recs n) (recs n) j) (bind (column_of (origin_in (recs n) j)) (part h recs n))) e

  pub part_suc : (n j : ℕ) → part h recs (suc n) j ≡ bind (column_of (origin_in (recs n) j)) (part h recs n)
  part_suc n j = part_on n j (none_opens (recs n) j)

  -- a part is below how many there are
  pub part_below : (n j q : ℕ) → part h recs n j ≡ some q → q < parts_to h recs n
  unfolding parts_to bind
  part_below zero j q e = omega (arith, from_below 0 h j q (sym (part_zero j) ∙ e))
  part_below (suc n) j q e = go (part_below n) (opens (recs n) j) (sym (part_step n j) ∙ e)
    where
      back : ((i r : ℕ) → part h recs n i ≡ some r → r < parts_to h recs n) → (o : Option ℕ) → bind o (part h recs n) ≡ some q → q < parts_to h recs n + made_in (recs n)
      back before none x = clash cc
      back before (some i) x = omega (arith, before i q x)

      go : ((i r : ℕ) → part h recs n i ≡ some r → r < parts_to h recs n) → (b : Bool)
          → cond b (opened_part (parts_to h recs n) (recs n) j) (bind (column_of (origin_in (recs n) j)) (part h recs n)) ≡ some q → q < parts_to h recs n + made_in (recs n)
      go before true x = opened_below (parts_to h recs n) (recs n) j q x
      go before false x = back before (column_of (origin_in (recs n) j)) x

  held_next : (n : ℕ) (row : List Spine) → Held n row → (o : Reading) → RecordIs (recs n) row o → OnRow (Held (suc n)) o
  unfolding columns
  held_next n row k ended e = tt
  held_next n row k (refused q f) e = tt
  held_next n row k (reached r) (l, e, t) = record {
    sound = takes_sound (recs n) row r k.sound t;
    parts = λ j. takes_part (recs n) row r k.sound e t j ∙ bind_ext (column_of (origin_in (recs n) j)) (part_at row) (part h recs n) k.parts ∙ sym (part_suc n j);
    size = takes_length (recs n) row r k.sound e t ∙ ap (width_in (recs n)) k.size;
  }

  held : (n : ℕ) → OnRow (Held n) (read_to h recs n)
  unfolding read_to columns
  held zero = record { sound = header_sound h; parts = λ j. header_part_lem h j ∙ sym (part_zero j); size = header_length 0 h }
  held (suc n) = go (read_to h recs n) (held n)
    where
      go : (o : Reading) → OnRow (Held n) o → OnRow (Held (suc n)) (and_then o (λ row. take_record row (recs n)))
      go (reached row) k = held_next n row k (take_record row (recs n)) (record_is (recs n) row)
      go ended k = tt
      go (refused q f) k = tt

  pub row_held : (n : ℕ) (row : List Spine) → read_to h recs n ≡ reached row → Held n row
  row_held n row e = subst (OnRow (Held n)) e (held n)

  -- the record after a row
  pub one_more : (n : ℕ) (row : List Spine) → read_to h recs n ≡ reached row → read_to h recs (suc n) ≡ take_record row (recs n)
  unfolding read_to
  one_more n row e = ap (λ (o : Reading). and_then o (λ row. take_record row (recs n))) e

  pub record_read : (n : ℕ) (row : List Spine) → read_to h recs n ≡ reached row → RecordIs (recs n) row (read_to h recs (suc n))
  record_read n row e = subst (RecordIs (recs n) row) (sym (one_more n row e)) (record_is (recs n) row)
