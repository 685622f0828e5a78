-- Demand 3: the player's NOTEs are the text's note tokens, one by one.
use Rattle.std.specs.Prelude.{◌/◌, ◌%◌, Bool, List, [], ◌∷◌, ◌≡◌, eqb}
use Rattle.duration.specs.Length.{Fraction, SameLength, note_length}
use Rattle.sheet.specs.Player.{Noted}
use Rattle.sheet.specs.declared.Note.{Note}
use Rattle.account.specs.Account.{Item}

-- "flags (.. 5 grace ..)"
abbrev pub is_grace : Note → Bool
is_grace n = eqb (n.flags / 32 % 2) 1

-- "A NOTE lasts its value, times 1, 3/2, 7/4 or 15/8 by its dots, times normal over actual where a tuplet stands; a grace lasts nothing."
unfoldable pub played_length : Note → Fraction
played_length n = note_length n.value n.dots n.actual n.normal (is_grace n)

-- "has the part, voice, bar, line, column, pitches and length of the k-th note token"
pub record Plays (x : Noted) (i : Item) : Type 0 where
  pub part : x.note.part ≡ i.part
  pub voice : x.note.voice ≡ i.voice
  pub bar : x.note.bar ≡ i.bar
  pub line : x.note.line ≡ i.line
  pub column : x.note.column ≡ i.column
  pub pitches : x.pitches ≡ i.pitches
  pub length : SameLength (played_length x.note) i.length

-- "there are as many NOTEs .. as taken records have note tokens. The k-th NOTE has ..": item by item
pub data Agree : List Noted → List Item → Type 0 where
  both_end : Agree [] []
  one_more : {x : Noted} {i : Item} {xs : List Noted} {is : List Item} → Plays x i → Agree xs is → Agree (x ∷ xs) (i ∷ is)

-- an element is so related to none of a list; in a list no element to a later one
module _ {A : Type 0} (Related : A → A → Type 0) where
  abbrev pub NoneOf : A → List A → Type 0
  NoneOf a [] = Unit {0}
  NoneOf a (b ∷ bs) = (Related a b → ⊥) × NoneOf a bs

  abbrev pub Apart : List A → Type 0
  Apart [] = Unit {0}
  Apart (a ∷ later) = NoneOf a later × Apart later

-- "Notes of one record never share part and voice": of note tokens, and of NOTEs
abbrev pub Share : Item → Item → Type 0
Share a b = (a.line ≡ b.line) × (a.part ≡ b.part) × (a.voice ≡ b.voice)

abbrev pub NotesShare : Noted → Noted → Type 0
NotesShare a b = (a.note.line ≡ b.note.line) × (a.note.part ≡ b.note.part) × (a.note.voice ≡ b.note.voice)

abbrev pub Distinct : List Item → Type 0
Distinct items = Apart Share items
