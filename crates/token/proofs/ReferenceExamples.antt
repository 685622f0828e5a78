-- Worked tokens by the reference: the pieces, the text that they give, and its pitches, said by the reference and heard in the text.
use Prim.Native.Nat.{ℕ}
use mathlib.Core.Path.{◌≡◌, refl}
use mathlib.Core.Bool.{Bool, true, ◌&&◌}
use mathlib.Core.List.{List, [], ◌∷◌}
use lib.Dec.{T}
use Rattle.std.specs.List.{filter}
use Rattle.slices.specs.Ascii.{ascii}
use Rattle.slices.specs.Split.{index_of}
use Rattle.slices.specs.Compare.{same_bytes}
use Rattle.duration.specs.Duration.{digits, number_from, exponent_of, gcd_in, written, written_at, counts, duration_of}
use Rattle.pitch.specs.Pitch.{within, lower_case, upper_case, lower_pitch, upper_pitch, pitch_of, altered_by}
use Rattle.pitch.specs.Reference.{Step, C, D, E, F, G, B, Case, lower, upper, letter_of, further, octave_of, number, Accidental, sharp, flat, natural}
use Rattle.pitch.specs.Reference as reference
use Rattle.notation.specs.Bytes.{contains}
use Rattle.duration.specs.Ratio.{is_ratio, spelled_value}
use Rattle.items.specs.Items.{is_letter, joins, into, runs, pieces, item_of, items_of}
use Rattle.token.specs.Token.{up_to_blank, first_sub, marks, rest_of, heard}
use Rattle.token.specs.Outcome.{note_pitches}
use Rattle.token.specs.Reference.{of_pitch, SubToken, bytes_of, token_of, octave_number, alteration, reference_tones}
use Rattle.token.proofs.Examples.{tones}

-- a note by its pieces
abbrev pub note : (before : List ℕ) (c : Case) (s : Step) (repetitions : ℕ) (a : Accidental) (behind : List ℕ)
    → filter of_pitch before ≡ [] → filter of_pitch behind ≡ reference.written a → SubToken
note before c s repetitions a behind p q =
    record {
      before = before;
      case = c;
      step = s;
      repetitions = repetitions;
      accidental = a;
      behind = behind;
      no_pitch_before = p;
      accidental_behind = q;
    }

-- a token of one note, or of two; its text; its pitches
pub data Line : Type 0 where
  one : SubToken → List ℕ → List ℕ → Line
  two : SubToken → SubToken → List ℕ → List ℕ → Line

abbrev pub same : List SubToken → List ℕ → List ℕ → Bool
same subs text pitches =
    same_bytes (token_of subs) text
    && (same_bytes (tones (reference_tones subs)) pitches && same_bytes (tones (note_pitches text)) pitches)

unfoldable pub holds : Line → Bool
holds (one s text pitches) = same (s ∷ []) text pitches
holds (two s t text pitches) = same (s ∷ t ∷ []) text pitches

abbrev pub each : List Line → Bool
each [] = true
each (l ∷ ls) = holds l && each ls

unfoldable pub table : List Line
unfolding of_pitch contains reference.written
table =
    -- the flat of a second note
    two
    (note (ascii "4") lower C 0 (flat 0) [] refl refl)
    (note (ascii "4") lower E 0 (flat 1) (ascii "-") refl refl)
    (ascii "4c 4e-") (0 ∷ 4 ∷ 128 ∷ 2 ∷ 4 ∷ 127 ∷ [])
    -- a dot, a beam, a tie, a stem
    ∷ one
    (note (ascii "8.") lower E 1 (flat 1) (ascii "-L") refl refl)
    (ascii "8.ee-L") (2 ∷ 5 ∷ 127 ∷ [])
    ∷ two
    (note (ascii "[2") upper C 0 (sharp 1) (ascii "#/") refl refl)
    (note (ascii "2") upper G 0 (sharp 0) (ascii "]") refl refl)
    (ascii "[2C#/ 2G]") (0 ∷ 3 ∷ 129 ∷ 4 ∷ 3 ∷ 128 ∷ [])
    -- marks between the bytes of an accidental; a natural
    ∷ two
    (note (ascii "(4") upper F 0 (sharp 3) (ascii "##'#~") refl refl)
    (note (ascii "4") upper B 1 natural (ascii "n)") refl refl)
    (ascii "(4F##'#~ 4BBn)") (3 ∷ 3 ∷ 131 ∷ 6 ∷ 2 ∷ 128 ∷ [])
    -- no pitch for an octave above 9
    ∷ two
    (note (ascii "4") lower C 6 (sharp 0) [] refl refl)
    (note (ascii "4") lower D 5 (sharp 0) [] refl refl)
    (ascii "4ccccccc 4dddddd") (1 ∷ 9 ∷ 128 ∷ [])
    ∷ []

pub examples : T (each table)
unfolding table holds token_of bytes_of letter_of reference_tones octave_number alteration number octave_of further same_bytes index_of digits number_from exponent_of gcd_in written written_at counts duration_of is_ratio spelled_value within lower_case upper_case lower_pitch upper_pitch pitch_of altered_by contains is_letter joins into runs pieces item_of items_of up_to_blank first_sub marks rest_of heard
examples = tt
