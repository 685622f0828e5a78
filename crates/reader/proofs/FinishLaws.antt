-- The end of a text.
use mathlib.Core.Path.{◌≡◌, ap₂}
use Prim.Native.Nat.{ℕ, ◌≤◌}
use lib.ListN.{length}
use lib.Seq.{length-take-le}
use mathlib.Core.Bool.{Bool, true, false}
use mathlib.Core.List.{List}
use borrow.Author.Tests.{eq-eqb, ne_eqb}
use Rattle.reading.specs.State.{State}
use Rattle.reading.specs.declared.Part.{Part}
use Rattle.state.specs.Lay.{laid, behind}
use Rattle.state.specs.View.{state_of}
use Rattle.state.specs.declared.Tally.{Tally}
use Rattle.reader.specs.Landing.{refused, written, final_records, finish_at}

pub not_begun : {begun : Bool} (st : State) (at : ℕ) (out : List ℕ) → begun ≡ false → refused 11 0 0 ≡ finish_at begun st at out
unfolding finish_at
not_begun st at out e = rw e

pub no_note : {begun : Bool} (st : State) (at : ℕ) (out : List ℕ) → begun ≡ true → st.notes ≡ 0 → refused 12 0 0 ≡ finish_at begun st at out
unfolding finish_at
no_note st at out e z = rw (e, eq-eqb st.notes 0 z)

pub some_note : {begun : Bool} {k : ℕ} {out' : List ℕ} (cells : List ℕ) (parts : List Part) (t : Tally) (out : List ℕ) → t.parts ≤ length parts → begun ≡ true → (t.notes ≡ 0 → ⊥)
    → (out' ≡ laid out t.at (final_records (state_of cells parts t))) × (k ≡ behind t.at (final_records (state_of cells parts t)))
    → written t.parts t.notes k out' ≡ finish_at begun (state_of cells parts t) t.at out
unfolding finish_at
some_note cells parts t out few e z w =
    rw (e, ne_eqb t.notes 0 z, length-take-le t.parts parts few) (ap₂ (written t.parts t.notes) w.1 w.0)
