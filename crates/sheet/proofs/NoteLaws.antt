-- NOTE: its length, its bytes, and the NOTE that the player reads back with its pitches and articulations.
use mathlib.Core.Path.{◌≡◌, refl, ap, ◌∙◌}
use Prim.Native.Nat.{ℕ, ◌+◌, ◌*◌}
use native.Mathlib.Omega.{arith}
use mathlib.Core.List.{List, [], ◌∷◌, ◌++◌, append_assoc}
use mathlib.Core.Option.{some}
use lib.ListN.{length, take, drop, length-append}
use lib.Seq.{take-append_seam, drop_at, drop-drop}
use Rattle.sheet.specs.Record.{NOTE, note_bytes, pitch_bytes, pitches_bytes, record_bytes}
use Rattle.sheet.specs.Player.{kind_of, note_at, pitches_at, is_note, length_by, record_length, record_by, record_at}
use Rattle.sheet.specs.Fits.{U8, All, PitchFits, NoteFits}
use Rattle.sheet.specs.declared.Note.{Note}
use Rattle.sheet.specs.declared.Pitch.{Pitch}
use Rattle.sheet.proofs.BytesLaws.{back2, back4, all_append}

pub note_length_lem : (n : Note) → length (note_bytes n) ≡ 28
unfolding note_bytes
note_length_lem n = refl

pub pitches_length : (ps : List Pitch) → length (pitches_bytes ps) ≡ 3 * length ps
unfolding pitches_bytes pitch_bytes
pitches_length [] = refl
pitches_length (p ∷ ps) = omega (arith, pitches_length ps)

pub NOTE_length : (n : Note) (ps : List Pitch) (marks : List ℕ) → length (record_bytes (NOTE n ps marks)) ≡ 28 + 3 * length ps + length marks
unfolding record_bytes
NOTE_length n ps marks =
    omega (
      arith,
      length-append (note_bytes n) (pitches_bytes ps ++ marks),
      length-append (pitches_bytes ps) marks,
      note_length_lem n,
      pitches_length ps,
    )

note_back : {n : Note} {ps : List Pitch} {marks : List ℕ} → NoteFits n ps marks → (rest : List ℕ) → note_at (note_bytes n ++ rest) ≡ n
unfolding note_bytes note_at
note_back f rest =
    rw (back4 f.numbers.0, back4 f.numbers.1.0, back2 f.column, back4 f.numbers.1.1.0, back4 f.numbers.1.1.1.0)

pitches_back : (ps : List Pitch) (rest : List ℕ) → pitches_at (length ps) (pitches_bytes ps ++ rest) ≡ ps
unfolding pitches_at pitches_bytes pitch_bytes
pitches_back [] rest = refl
pitches_back (p ∷ ps) rest = ap (λ (l : List Pitch). p ∷ l) (pitches_back ps rest)

-- the kind is that of a NOTE, whatever follows
note_kind : (n : Note) (rest : List ℕ) → record_at (note_bytes n ++ rest) ≡ record_by is_note (note_bytes n ++ rest)
unfolding note_bytes kind_of record_at
note_kind n rest = refl

note_kind_length : (n : Note) (rest : List ℕ) → record_length (note_bytes n ++ rest) ≡ length_by is_note (note_bytes n ++ rest)
unfolding note_bytes kind_of record_length
note_kind_length n rest = refl

-- the player meets the NOTE, its pitches and its articulations one behind the other
module _ {n : Note} {ps : List Pitch} {marks : List ℕ} (f : NoteFits n ps marks) (rest : List ℕ) where
  abbrev bytes : List ℕ
  bytes = note_bytes n ++ (pitches_bytes ps ++ (marks ++ rest))

  together : record_bytes (NOTE n ps marks) ++ rest ≡ bytes
  unfolding record_bytes
  together =
      append_assoc (note_bytes n) (pitches_bytes ps ++ marks) rest
      ∙ ap (λ (l : List ℕ). note_bytes n ++ l) (append_assoc (pitches_bytes ps) marks rest)

  note_here : note_at bytes ≡ n
  note_here = note_back f (pitches_bytes ps ++ (marks ++ rest))

  pitches_here : pitches_at n.pitches (drop 28 bytes) ≡ ps
  pitches_here = rw (drop_at (note_bytes n) (pitches_bytes ps ++ (marks ++ rest)) 28 (note_length_lem n), f.pitches) (pitches_back ps (marks ++ rest))

  marks_here : take n.articulations (drop (28 + 3 * n.pitches) bytes) ≡ marks
  marks_here =
      rw (
        ← drop-drop (3 * n.pitches) 28 bytes,
        drop_at (note_bytes n) (pitches_bytes ps ++ (marks ++ rest)) 28 (note_length_lem n),
        f.pitches,
        drop_at (pitches_bytes ps) (marks ++ rest) (3 * length ps) (pitches_length ps),
        f.articulations,
      )
      (take-append_seam marks rest)

  pub NOTE_back : record_at (record_bytes (NOTE n ps marks) ++ rest) ≡ some (NOTE n ps marks)
  unfolding record_by
  NOTE_back = rw (together, note_kind n (pitches_bytes ps ++ (marks ++ rest)), note_here, pitches_here, marks_here)

  pub NOTE_reads : record_length (record_bytes (NOTE n ps marks) ++ rest) ≡ length (record_bytes (NOTE n ps marks))
  unfolding length_by
  NOTE_reads =
      let e : record_length (record_bytes (NOTE n ps marks) ++ rest) ≡ 28 + 3 * n.pitches + n.articulations =
      rw (together, note_kind_length n (pitches_bytes ps ++ (marks ++ rest)), note_here) in
      omega (arith, NOTE_length n ps marks)

pitches_bytes_lem : (ps : List Pitch) → All PitchFits ps → All U8 (pitches_bytes ps)
unfolding pitches_bytes pitch_bytes
pitches_bytes_lem [] f = f
pitches_bytes_lem (p ∷ ps) f = (f.0.0, (f.0.1.0, (f.0.1.1.0, pitches_bytes_lem ps f.1)))

note_bytes_lem : {n : Note} {ps : List Pitch} {marks : List ℕ} → NoteFits n ps marks → All U8 (note_bytes n)
unfolding note_bytes
note_bytes_lem f = omega arith

pub NOTE_bytes : {n : Note} {ps : List Pitch} {marks : List ℕ} → NoteFits n ps marks → All U8 (record_bytes (NOTE n ps marks))
unfolding record_bytes
NOTE_bytes {n} {ps} {marks} f =
    all_append U8 (note_bytes n) (pitches_bytes ps ++ marks) (note_bytes_lem f)
    (all_append U8 (pitches_bytes ps) marks (pitches_bytes_lem ps f.each_pitch) f.each_articulation)
