-- The rests of a hole, one after the other.
use Rattle.std.specs.Prelude.{◌≡◌, ℕ, zero, suc, ◌+◌, ◌-◌, ◌≤◌, cond, List, [], ◌∷◌, eqb, length, Option, None, Some, Result, Ok, Err}
use Rattle.sheet.specs.declared.Note.{Note}
use Rattle.sheet.specs.Record.{Record, NOTE, records_bytes}
use Rattle.gap.specs.Next.{next_rest}
use Rattle.gap.specs.declared.Rest.{Rest}
use Rattle.gap.specs.declared.Hole.{Hole}
use Rattle.gap.specs.declared.Refusal.{Refusal}
use Rattle.gap.specs.declared.Refusal.TheVariants.{NoValue, Full}

-- "hidden rests .. as NOTE records with part, voice, bar, line and column zero": flag bits 0 rest and 7 hidden
abbrev pub rest_note : Rest → Note
rest_note r = record {
  part = 0;
  voice = 0;
  value = r.value;
  bar = 0;
  line = 0;
  column = 0;
  dots = 0;
  flags = 129;
  actual = r.actual;
  normal = r.normal;
  beam = 0;
  pitches = 0;
  articulations = 0;
}

-- why a hole is turned away, or its rests
abbrev pub Fill : Type 0
Fill = Result (List Note) Refusal

abbrev pub more : Note → Fill → Fill
more n (Err e) = Err e
more n (Ok ns) = Ok (n ∷ ns)

-- "14, some ticks remain and no value fits them; 15, the voice .. would pass 50,000 notes. The one reached first is given":
-- `room` is how many more notes the voice may have
unfoldable pub fill_from : ℕ → ℕ → ℕ → Fill
fill_from zero divisions ticks =
    cond (eqb ticks 0) (Ok [])
    (elim (next_rest divisions ticks) [
      | None ↦ Err NoValue
      | Some rest ↦ Err Full
    ])
fill_from (suc room) divisions ticks =
    cond (eqb ticks 0) (Ok [])
    (elim (next_rest divisions ticks) [
      | None ↦ Err NoValue
      | Some rest ↦ more (rest_note rest) (fill_from room divisions (ticks - rest.ticks))
    ])

abbrev pub fill_hole : Hole → Fill
fill_hole h = fill_from h.room h.left.divisions h.left.ticks

-- how many rests, with n before them
abbrev pub counted : ℕ → Fill → Result ℕ Refusal
counted n (Err e) = Err e
counted n (Ok ns) = Ok (n + length ns)

-- the bytes of the rests
abbrev pub records : List Note → List Record
records [] = []
records (n ∷ ns) = NOTE n [] [] ∷ records ns

abbrev pub rests_bytes : List Note → List ℕ
rests_bytes ns = records_bytes (records ns)

-- a hole that rests fill, for which a buffer has room
pub record Filling (room divisions ticks : ℕ) (out : List ℕ) : Type 0 where
  pub rests : List Note
  pub same : fill_from room divisions ticks ≡ Ok rests
  pub long : length (rests_bytes rests) ≤ length out

-- a rest taken out of a hole leaves the rest of it, in a voice with one note more
pub record Leaves (old new : Hole) (rest : Rest) : Type 0 where
  pub fills : fill_hole old ≡ more (rest_note rest) (fill_hole new)
  pub divisions : new.left.divisions ≡ old.left.divisions
  pub left : new.left.ticks + rest.ticks ≡ old.left.ticks
  pub room : new.room + 1 ≡ old.room

-- what comes out of a hole: a rest, nothing where it is filled, or why it is turned away
abbrev pub Taken : Hole → Hole → Result (Option Rest) Refusal → Type 0
Taken old new (Err e) = fill_hole old ≡ Err e
Taken old new (Ok None) = fill_hole old ≡ Ok []
Taken old new (Ok (Some rest)) = Leaves old new rest
