-- WHAT THE TEXT SAYS of its notes: each note token of a taken record with its part, voice, bar, line, column, pitches and length.
-- Quoted are document 01's sentences.
use Rattle.std.specs.Prelude.{ℕ, suc, ◌+◌, Bool, true, false, cond, ◌||◌, List, [], ◌∷◌, ◌++◌, map}
use Rattle.std.proofs.Math.Option.{Option, none, some}
use Rattle.lines.specs.Tokens.{is_null}
use Rattle.lines.specs.declared.Kind.{Kind}
use Rattle.lines.specs.declared.Kind.TheVariants.{Empty, Reference, Comment, Star, Bar, Data}
use Rattle.duration.specs.Length.{Fraction}
use Rattle.pitch.specs.Pitch.{twos_complement}
use Rattle.token.specs.Account.{is_note, account_length}
use Rattle.token.specs.Outcome.{note_pitches}
use Rattle.token.specs.declared.pitches.Tone.{Tone}
use Rattle.peers.specs.Peers.{is_bare, peer_reciprocal}
use Rattle.paths.specs.Trace.{part}
use Rattle.paths.specs.TracedVoice.{voice}
use Rattle.sheet.specs.declared.Pitch.{Pitch}
use Rattle.account.specs.Rows.{Taken, header_of, paths_of, taken_of}

-- "part, voice, bar, line, column, pitches and length"
pub record Item : Type 0 where
  pub part : ℕ
  pub voice : ℕ
  pub bar : ℕ
  pub line : ℕ
  pub column : ℕ
  pub pitches : List Pitch
  pub length : Fraction

-- a pitch as the sheet has it: step, octave, alter in two's complement
abbrev pub pitch_of : Tone → Pitch
pitch_of t = record { step = t.step; octave = t.octave; alter = twos_complement t.alter }

abbrev pub is_kern_column : Option ℕ → Bool
is_kern_column none = false
is_kern_column (some p) = true

-- which columns are kern, from column j on, one for each token
unfoldable pub kern_columns : (ℕ → Option ℕ) → ℕ → List (List ℕ) → List Bool
kern_columns part_at j [] = []
kern_columns part_at j (t ∷ ts) = is_kern_column (part_at j) ∷ kern_columns part_at (suc j) ts

-- "reciprocal n, read or inferred as the source does": what a bare pitch takes from its neighbours
unfoldable pub inferred_of : List (List ℕ) → List Bool → ℕ → List ℕ → List ℕ
inferred_of tokens kern j t = cond (is_bare t) (peer_reciprocal tokens kern j) []

-- ---- one record: what part and what voice each column has, its tokens, which columns are kern, its line, its bar
module _ (part_at : ℕ → Option ℕ) (voice_at : ℕ → ℕ) (tokens : List (List ℕ)) (kern : List Bool) (number bar : ℕ) where
  abbrev pub item_of : ℕ → ℕ → List ℕ → Item
  item_of p j t = record {
    part = p;
    voice = voice_at j;
    bar = bar;
    line = number;
    column = j + 1;
    pitches = map pitch_of (note_pitches t);
    length = account_length t (inferred_of tokens kern j t);
  }

  -- "a note token a token under a kern spine that gives a note by these rules"; "A `.` is passed over."
  abbrev pub item_in : Option ℕ → ℕ → List ℕ → List Item
  item_in none j t = []
  item_in (some p) j t = cond (is_null t) [] (cond (is_note t (inferred_of tokens kern j t)) (item_of p j t ∷ []) [])

  -- "by line, then column", from column j on
  unfoldable pub items_from : ℕ → List (List ℕ) → List Item
  items_from j [] = []
  items_from j (t ∷ ts) = item_in (part_at j) j t ++ items_from (suc j) ts

-- ---- the whole text
abbrev pub any_item : List Item → Bool
any_item [] = false
any_item (i ∷ is) = true

-- "A closing is a taken record begun by `=`, or the end, with a note token since the closing before or the header."
abbrev pub closings_after : Kind → Bool → ℕ → ℕ
closings_after Empty noted closings = closings
closings_after Reference noted closings = closings
closings_after Comment noted closings = closings
closings_after Star noted closings = closings
closings_after Bar noted closings = cond noted (closings + 1) closings
closings_after Data noted closings = closings

abbrev pub noted_after : Kind → Bool → List Item → Bool
noted_after Empty noted items = noted
noted_after Reference noted items = noted
noted_after Comment noted items = noted
noted_after Star noted items = noted
noted_after Bar noted items = false
noted_after Data noted items = noted || any_item items

-- what part and what voice each column of the row before the n-th later record has
module _ (parts : ℕ → ℕ → Option ℕ) (voices : ℕ → ℕ → ℕ) where
  -- the note tokens of the n-th later record, "in the bar numbered one above the closings before it"
  unfoldable pub items_of : ℕ → ℕ → Taken → List Item
  items_of n closings t = items_from (parts n) (voices n) t.tokens (kern_columns (parts n) 0 t.tokens) t.number (closings + 1) 0 t.tokens

  -- "in one begun by `=` no token is a note token", nor in one begun by `*`
  abbrev pub items_by : Kind → ℕ → ℕ → Taken → List Item
  items_by Empty n closings t = []
  items_by Reference n closings t = []
  items_by Comment n closings t = []
  items_by Star n closings t = []
  items_by Bar n closings t = []
  items_by Data n closings t = items_of n closings t

  -- from the n-th later record on, after so many closings, and whether a note token came since the last of them or the header
  unfoldable pub account_from : ℕ → ℕ → Bool → List Taken → List Item
  account_from n closings noted [] = []
  account_from n closings noted (t ∷ ts) =
      let items = items_by t.kind n closings t in
      items ++ account_from (suc n) (closings_after t.kind noted closings) (noted_after t.kind noted items) ts

-- by what part each column is taken to have
unfoldable pub account_by : (ℕ → ℕ → Option ℕ) → List ℕ → List Item
account_by parts text = account_from parts (voice (header_of text) (paths_of text)) 0 0 false (taken_of text)

-- "Its part is the `**kern` header column reached": by the trace backwards
unfoldable pub account : List ℕ → List Item
account text = account_by (part (header_of text) (paths_of text)) text
