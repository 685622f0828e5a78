-- The answer and the buffer, by what the hole comes to.
use Rattle.std.specs.Prelude.{Result, Ok, Err, IfErr, OnOk}
use mathlib.Core.Path.{◌≡◌, refl, sym, ap, subst, ◌∙◌}
use Prim.Native.Nat.{ℕ, ◌+◌, ◌-◌, ◌*◌, ◌≤◌, ◌<◌}
use native.Mathlib.Omega.{arith}
use mathlib.Core.Bool.{Bool, cond}
use mathlib.Core.List.{List, ◌++◌}
use lib.ListN.{length, drop}
use borrow.Author.Tests.{le-leb, lt-leb}
use Rattle.slices.specs.Store.{stored}
use Rattle.slices.proofs.StoreLaws.{stored_not}
use Rattle.slices.proofs.TestLaws.{clash}
use Rattle.sheet.specs.declared.Note.{Note}
use Rattle.gap.specs.Fill.{Fill, fill_from, counted, rests_bytes, Filling}
use Rattle.gap.specs.Answer.{number_of, numbers_of, answered, laid, gap_answer, gap_buffer}
use Rattle.gap.specs.Exact.{FilledWith}
use Rattle.gap.specs.declared.Refusal.{Refusal}
use Rattle.gap.specs.declared.Refusal.TheVariants.{Short, NoValue, Full}
use Rattle.gap.proofs.FillLaws.{rests_long, Adds, adds_up, Few, fill_few, InWidth, fill_fits}

-- what is counted says what the hole comes to
counted_turned : (f : Fill) {e : Refusal} → Err e ≡ counted 0 f → f ≡ Err e
counted_turned (Err x) q = cc
counted_turned (Ok ns) q = clash cc

counted_rests : (f : Fill) {n : ℕ} → Ok n ≡ counted 0 f → (ns : List Note) × ((f ≡ Ok ns) × (n * 28 ≡ length (rests_bytes ns)))
counted_rests (Err x) q = clash cc
counted_rests (Ok ns) {n} q =
    let k : n ≡ 0 + length ns = cc in
    (ns, (refl, omega (arith, rests_long ns)))

fits_in : (old bytes : List ℕ) → length bytes ≤ length old → stored old bytes ≡ bytes ++ drop (length bytes) old
unfolding stored
fits_in old bytes h = rw (le-leb (length bytes) (length old) h)

-- a refusal has one of the three numbers
known : (e : Refusal) → (13 ≤ number_of e) × (number_of e ≤ 15)
known (Short long) = (omega arith, omega arith)
known NoValue = (omega arith, omega arith)
known Full = (omega arith, omega arith)

-- all that the contract says
pub record Answers (ticks d notes : ℕ) (old new : List ℕ) (result : Result ℕ Refusal) : Type 0 where
  pub answer : numbers_of result ≡ gap_answer ticks d notes old
  pub buffer : new ≡ gap_buffer ticks d notes old
  pub numbered : IfErr result (λ e. (13 ≤ number_of e) × (number_of e ≤ 15))
  pub filled : OnOk result (FilledWith ticks d old new)

module _ (ticks d notes : ℕ) (old : List ℕ) {room : ℕ} (is-room : room ≡ 50000 - notes) where
  abbrev fill : Fill
  fill = fill_from room d ticks

  told : fill_from (50000 - notes) d ticks ≡ fill
  told = ap (λ (k : ℕ). fill_from k d ticks) (sym is-room)

  pub turned_away : {e : Refusal} → Err e ≡ counted 0 fill → Answers ticks d notes old old (Err e)
  unfolding gap_answer gap_buffer
  turned_away {e} q =
      let f : fill_from (50000 - notes) d ticks ≡ Err e = told ∙ counted_turned fill q in record {
        answer = sym (ap (λ (x : Fill). numbers_of (answered x (length old))) f);
        buffer = sym (ap (λ (x : Fill). laid x old) f);
        numbered = known e;
        filled = tt;
      }

  module _ {n : ℕ} (e : Ok n ≡ counted 0 fill) where
    some_rests : (ns : List Note) × ((fill ≡ Ok ns) × (n * 28 ≡ length (rests_bytes ns)))
    some_rests = counted_rests fill e

    pub few_bytes : n * 28 ≤ 1400000
    few_bytes =
        let ns = some_rests.0 in
        omega (arith, some_rests.1.1, rests_long ns, subst (Few room) some_rests.1.0 (fill_few room d ticks), is-room)

    answered_by : (b : Bool) → ℕ → ℕ × ℕ × ℕ
    answered_by b long = numbers_of (cond b (Ok long) (Err (Short long)))

    pub too_short : length old < n * 28 → Answers ticks d notes old old (Err (Short (n * 28)))
    unfolding gap_answer gap_buffer answered_by
    too_short h =
        let ns = some_rests.0 in
        let long : length old < length (rests_bytes ns) = omega (arith, some_rests.1.1) in
        let f : fill_from (50000 - notes) d ticks ≡ Ok ns = told ∙ some_rests.1.0 in record {
          answer =
              sym
              (ap (λ (x : Fill). numbers_of (answered x (length old))) f
              ∙ ap (λ (b : Bool). answered_by b (length (rests_bytes ns))) (lt-leb _ _ long)
              ∙ ap (λ (k : ℕ). (13, 0, k)) (sym some_rests.1.1));
          buffer = sym (ap (λ (x : Fill). laid x old) f ∙ stored_not old (rests_bytes ns) long);
          numbered = (omega arith, omega arith);
          filled = tt;
        }

    module _ (h : n * 28 ≤ length old) where
      long_enough : length (rests_bytes some_rests.0) ≤ length old
      long_enough = omega (arith, some_rests.1.1)

      pub can_fill : Filling room d ticks old
      can_fill = record { rests = some_rests.0; same = some_rests.1.0; long = long_enough }

      pub is_filled : {new : List ℕ} → new ≡ laid fill old → Answers ticks d notes old new (Ok (n * 28))
      unfolding gap_answer gap_buffer answered_by
      is_filled {new} w =
          let ns = some_rests.0 in
          let f : fill_from (50000 - notes) d ticks ≡ Ok ns = told ∙ some_rests.1.0 in record {
            answer =
                sym
                (ap (λ (x : Fill). numbers_of (answered x (length old))) f
                ∙ ap (λ (b : Bool). answered_by b (length (rests_bytes ns))) (le-leb _ _ long_enough)
                ∙ ap (λ (k : ℕ). (0, 0, k)) (sym some_rests.1.1));
            buffer = w ∙ sym (ap (λ (x : Fill). laid x old) told);
            numbered = tt;
            filled = record {
              rests = ns;
              begins = w ∙ ap (λ (x : Fill). laid x old) some_rests.1.0 ∙ fits_in old (rests_bytes ns) long_enough;
              adds = subst (Adds d ticks) some_rests.1.0 (adds_up room d ticks);
              fits = subst InWidth some_rests.1.0 (fill_fits room d ticks);
            };
          }
