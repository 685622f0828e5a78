-- The rests one after the other: what the loops keep, and that they add up.
use Rattle.std.specs.Prelude.{Option, None, Some, Result, Ok, Err}
use mathlib.Core.Path.{◌≡◌, refl, sym, ap, subst, ◌∙◌}
use Prim.Native.Nat.{ℕ, zero, suc, ◌+◌, ◌-◌, ◌*◌, ◌≤◌}
use native.Mathlib.Omega.{arith}
use mathlib.Core.Bool.{Bool, true, false, cond}
use mathlib.Core.List.{List, [], ◌∷◌, ◌++◌, append-nil}
use lib.Dec.{eqb}
use lib.ListN.{length, length-append}
use lib.Seq.{sets, length-sets}
use borrow.Author.Tests.{eqb-true, eqb-false, ne_eqb}
use Rattle.slices.proofs.StoreLaws.{sets_append, stored_sets}
use Rattle.slices.proofs.TestLaws.{clash}
use Rattle.sheet.specs.declared.Note.{Note}
use Rattle.sheet.specs.Fits.{All, Fits}
use Rattle.sheet.specs.Record.{NOTE, note_bytes, record_bytes, records_bytes, pitches_bytes}
use Rattle.sheet.proofs.NoteLaws.{note_length_lem}
use Rattle.gap.specs.Next.{next_rest}
use Rattle.gap.specs.Fill.{rest_note, Fill, more, fill_from, fill_hole, counted, records, rests_bytes, Filling, Leaves, Taken}
use Rattle.gap.specs.Answer.{number_of, laid}
use Rattle.gap.specs.Exact.{AddsUp, no_rest, one_more}
use Rattle.gap.specs.declared.Rest.{Rest}
use Rattle.gap.specs.declared.Hole.{Hole}
use Rattle.gap.specs.declared.Refusal.{Refusal}
use Rattle.gap.specs.declared.Refusal.TheVariants.{NoValue, Full}
use Rattle.gap.proofs.ServeLaws.{Serves, Good, next_good}

-- ---- why a hole is turned away

-- by 14 or 15: by what is left of it or by the voice, never by a buffer
abbrev pub Known : Fill → Type 0
Known (Err e) = (14 ≤ number_of e) × (number_of e ≤ 15)
Known (Ok ns) = Unit {0}

known_more : (n : Note) (f : Fill) → Known f → Known (more n f)
known_more n (Err e) h = h
known_more n (Ok ns) h = tt

known_by : (b : Bool) (next : Option Rest) (e : Refusal) (f : Rest → Fill) → Known (Err e) → ((r : Rest) → Known (f r))
    → Known (cond b (Ok []) (elim next [
      | None ↦ Err e
      | Some rest ↦ f rest
    ]))
known_by true next e f none some = tt
known_by false None e f none some = none
known_by false (Some r) e f none some = some r

pub fill_known : (free d ticks : ℕ) → Known (fill_from free d ticks)
unfolding fill_from
fill_known zero d ticks = known_by (eqb ticks 0) (next_rest d ticks) _ _ (omega arith, omega arith) (λ r. (omega arith, omega arith))
fill_known (suc free) d ticks =
    known_by (eqb ticks 0) (next_rest d ticks) _ _ (omega arith, omega arith)
    (λ r. known_more (rest_note r) (fill_from free d (ticks - r.ticks)) (fill_known free d (ticks - r.ticks)))

-- ---- one rest

fill_done : (free d : ℕ) → fill_from free d 0 ≡ Ok []
unfolding fill_from
fill_done zero d = refl
fill_done (suc free) d = refl

pub hole_done : (h : Hole) → h.left.ticks ≡ 0 → fill_hole h ≡ Ok []
hole_done h e = ap (fill_from h.room h.left.divisions) e ∙ fill_done h.room h.left.divisions

module _ (d left : ℕ) (some : left ≡ 0 → ⊥) where
  pub fill_none : (free : ℕ) → next_rest d left ≡ None → fill_from free d left ≡ Err NoValue
  unfolding fill_from
  fill_none zero e = rw (ne_eqb left 0 some, e)
  fill_none (suc free) e = rw (ne_eqb left 0 some, e)

  module _ {r : Rest} (e : next_rest d left ≡ Some r) where
    pub fill_full : (free : ℕ) → free ≡ 0 → fill_from free d left ≡ Err Full
    unfolding fill_from
    fill_full zero z = rw (ne_eqb left 0 some, e)
    fill_full (suc free) z = absurd (omega arith)

    pub fill_more : (free : ℕ) → (free ≡ 0 → ⊥) → fill_from free d left ≡ more (rest_note r) (fill_from (free - 1) d (left - r.ticks))
    unfolding fill_from
    fill_more zero nz = absurd (nz refl)
    fill_more (suc free) nz =
        let k : suc free - 1 ≡ free = omega arith in
        rw (ne_eqb left 0 some, e) (ap (λ (j : ℕ). more (rest_note r) (fill_from j d (left - r.ticks))) (sym k))

    pub takes : Serves d left r
    takes = subst (Good d left) e (next_good d left (omega arith))

-- ---- counting

-- what the rest of a hole comes to behind n rests is what the hole comes to
pub record Counting (all now : Hole) (n : ℕ) : Type 0 where
  pub same : counted n (fill_hole now) ≡ counted 0 (fill_hole all)
  pub few : n + now.room ≡ all.room

-- ---- writing

pub rests_cons : (n : Note) (ns : List Note) → rests_bytes (n ∷ ns) ≡ note_bytes n ++ rests_bytes ns
unfolding records_bytes record_bytes pitches_bytes
rests_cons n ns = ap (λ (bs : List ℕ). bs ++ rests_bytes ns) (append-nil (note_bytes n))

pub rests_long : (ns : List Note) → length (rests_bytes ns) ≡ length ns * 28
unfolding records_bytes
rests_long [] = refl
rests_long (n ∷ ns) =
    ap length (rests_cons n ns) ∙ length-append (note_bytes n) (rests_bytes ns) ∙ omega (arith, note_length_lem n, rests_long ns)

more_filled : (x : Note) (f : Fill) {ns : List Note} → more x f ≡ Ok ns → (ms : List Note) × ((f ≡ Ok ms) × (ns ≡ x ∷ ms))
more_filled x (Err e) q = clash cc
more_filled x (Ok ms) q = (ms, (refl, cc))

-- a hole that is filled by rests for which there is room from `at` on; with them there the buffer is as at the end
pub record Writing (all out : List ℕ) (now : Hole) (at : ℕ) : Type 0 where
  pub rests : List Note
  pub same : fill_hole now ≡ Ok rests
  pub room : at + length (rests_bytes rests) ≤ length out
  pub whole : sets out at (rests_bytes rests) ≡ all

pub writing_first : {h : Hole} {out : List ℕ} → Filling h.room h.left.divisions h.left.ticks out → Writing (laid (fill_hole h) out) out h 0
writing_first {h} {out} f = record {
  rests = f.rests;
  same = f.same;
  room = omega (arith, f.long);
  whole = sym (stored_sets out (rests_bytes f.rests) f.long) ∙ sym (ap (λ (x : Fill). laid x out) f.same);
}

module _ {all out : List ℕ} {old : Hole} {at : ℕ} (inv : Writing all out old at) where
  pub writing_done : fill_hole old ≡ Ok [] → out ≡ all
  unfolding records_bytes
  writing_done z =
      let e : Ok [] ≡ Ok inv.rests = sym z ∙ inv.same in
      let r : inv.rests ≡ [] = cc in
      sym (ap (λ (ns : List Note). sets out at (rests_bytes ns)) r) ∙ inv.whole

  pub writing_turned : {e : Refusal} → fill_hole old ≡ Err e → ⊥
  writing_turned {e} z =
      let q : Err e ≡ Ok inv.rests = sym z ∙ inv.same in
      clash cc

  -- with no rest to come all is written
  pub writing_end : (new : Hole) (result : Result (Option Rest) Refusal) → Taken old new result → ((r : Rest) → result ≡ Ok (Some r) → ⊥) → out ≡ all
  writing_end new (Err e) t n = absurd (writing_turned t)
  writing_end new (Ok None) t n = writing_done t
  writing_end new (Ok (Some r)) t n = absurd (n r refl)

  module _ {new : Hole} {r : Rest} (l : Leaves old new r) where
    behind : (ms : List Note) × ((fill_hole new ≡ Ok ms) × (inv.rests ≡ rest_note r ∷ ms))
    behind = more_filled (rest_note r) (fill_hole new) (sym l.fills ∙ inv.same)

    bytes : rests_bytes inv.rests ≡ note_bytes (rest_note r) ++ rests_bytes behind.0
    bytes = ap rests_bytes behind.1.1 ∙ rests_cons (rest_note r) behind.0

    pub writing_room : at + 28 ≤ length out
    writing_room = omega (arith, inv.room, ap length bytes, length-append (note_bytes (rest_note r)) (rests_bytes behind.0), note_length_lem (rest_note r))

    pub writing_turn : {out' : List ℕ} → out' ≡ sets out at (note_bytes (rest_note r)) → Writing all out' new (at + 28)
    writing_turn {out'} w =
        let long : length (note_bytes (rest_note r)) ≡ 28 = note_length_lem (rest_note r) in
        record {
          rests = behind.0;
          same = behind.1.0;
          room =
              omega (
                arith,
                inv.room,
                ap length bytes,
                length-append (note_bytes (rest_note r)) (rests_bytes behind.0),
                long,
                ap length w,
                length-sets out at (note_bytes (rest_note r)),
              );
          whole =
              ap (λ (o : List ℕ). sets o (at + 28) (rests_bytes behind.0)) w
              ∙ ap (λ (k : ℕ). sets (sets out at (note_bytes (rest_note r))) (at + k) (rests_bytes behind.0)) (sym long)
              ∙ sets_append (note_bytes (rest_note r)) (rests_bytes behind.0) out at
              ∙ ap (sets out at) (sym bytes)
              ∙ inv.whole;
        }

-- ---- what holds of every hole

-- by the rests, one after the other: P of how many more notes the voice may have, the ticks, and what they come to
module _ (d : ℕ) (P : ℕ → ℕ → Fill → Type 0)
    (none_left : (free : ℕ) → P free 0 (Ok []))
    (no_value : (free ticks : ℕ) → P free ticks (Err NoValue))
    (no_room : (ticks : ℕ) → P 0 ticks (Err Full))
    (one-rest : (free ticks : ℕ) (r : Rest) (f : Fill) → Serves d ticks r → P free (ticks - r.ticks) f → P (suc free) ticks (more (rest_note r) f)) where
  every_hole : (free ticks : ℕ) → P free ticks (fill_from free d ticks)
  unfolding fill_from
  every_hole zero ticks = go (eqb ticks 0) refl (next_rest d ticks)
    where
      go : (b : Bool) → eqb ticks 0 ≡ b → (next : Option Rest)
          → P 0 ticks (cond b (Ok []) (elim next [
            | None ↦ Err NoValue
            | Some rest ↦ Err Full
          ]))
      go true e next = subst (λ (k : ℕ). P 0 k (Ok [])) (sym (eqb-true ticks 0 e)) (none_left 0)
      go false e None = no_value 0 ticks
      go false e (Some r) = no_room ticks
  every_hole (suc free) ticks = go (eqb ticks 0) refl (next_rest d ticks) refl (λ (t : ℕ). every_hole free (ticks - t))
    where
      go : (b : Bool) → eqb ticks 0 ≡ b → (next : Option Rest) → next_rest d ticks ≡ next → ((t : ℕ) → P free (ticks - t) (fill_from free d (ticks - t)))
          → P (suc free) ticks (cond b (Ok []) (elim next [
            | None ↦ Err NoValue
            | Some rest ↦ more (rest_note rest) (fill_from free d (ticks - rest.ticks))
          ]))
      go true e next q later = subst (λ (k : ℕ). P (suc free) k (Ok [])) (sym (eqb-true ticks 0 e)) (none_left (suc free))
      go false e None q later = no_value (suc free) ticks
      go false e (Some r) q later = one-rest free ticks r (fill_from free d (ticks - r.ticks)) (takes d ticks (eqb-false ticks 0 e) q) (later r.ticks)

-- "the lengths add up to the hole"
abbrev pub Adds : ℕ → ℕ → Fill → Type 0
Adds d ticks (Err e) = Unit {0}
Adds d ticks (Ok ns) = AddsUp d ns ticks

pub adds_up : (free d ticks : ℕ) → Adds d ticks (fill_from free d ticks)
adds_up free d ticks = every_hole d (λ f k x. Adds d k x) (λ f. no_rest) (λ f k. tt) (λ k. tt) more_adds free ticks
  where
    more_adds : (free ticks : ℕ) (r : Rest) (f : Fill) → Serves d ticks r → Adds d (ticks - r.ticks) f → Adds d ticks (more (rest_note r) f)
    more_adds free ticks r (Err e) s h = tt
    more_adds free ticks r (Ok ns) s h =
        let k : r.ticks + (ticks - r.ticks) ≡ ticks = omega (arith, s.high) in
        subst (AddsUp d (rest_note r ∷ ns)) k (one_more r.ticks s.some s.same h)

-- no more rests than there is room for
abbrev pub Few : ℕ → Fill → Type 0
Few free (Err e) = Unit {0}
Few free (Ok ns) = length ns ≤ free

pub fill_few : (free d ticks : ℕ) → Few free (fill_from free d ticks)
fill_few free d ticks = every_hole d (λ f k x. Few f x) (λ f. omega arith) (λ f k. tt) (λ k. tt) more_few free ticks
  where
    more_few : (free ticks : ℕ) (r : Rest) (f : Fill) → Serves d ticks r → Few free f → Few (suc free) (more (rest_note r) f)
    more_few free ticks r (Err e) s h = tt
    more_few free ticks r (Ok ns) s h = omega arith

-- the numbers of each rest are within their widths
abbrev pub InWidth : Fill → Type 0
InWidth (Err e) = Unit {0}
InWidth (Ok ns) = All Fits (records ns)

rest_fits : {d ticks : ℕ} {r : Rest} → Serves d ticks r → Fits (NOTE (rest_note r) [] [])
rest_fits s = record {
  bytes = (omega arith, (omega arith, (omega (arith, s.value_in), (omega arith, (omega arith, (s.actual_in, (s.normal_in, (omega arith, tt))))))));
  column = omega arith;
  numbers = (omega arith, (omega arith, (omega arith, (omega arith, tt))));
  pitches = refl;
  articulations = refl;
  each_pitch = tt;
  each_articulation = tt;
}

pub fill_fits : (free d ticks : ℕ) → InWidth (fill_from free d ticks)
fill_fits free d ticks = every_hole d (λ f k x. InWidth x) (λ f. tt) (λ f k. tt) (λ k. tt) more_fits free ticks
  where
    more_fits : (free ticks : ℕ) (r : Rest) (f : Fill) → Serves d ticks r → InWidth f → InWidth (more (rest_note r) f)
    more_fits free ticks r (Err e) s h = tt
    more_fits free ticks r (Ok ns) s h = (rest_fits s, h)

-- the ways out of `take`
pub ruleset holes = (hole_done, fill_none, fill_full)

-- how the loop of `write_rests` goes
pub ruleset writing = (writing_first, writing_turn, writing_room)
