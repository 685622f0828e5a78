-- The barlines that a token gives.
use Rattle.std.specs.Prelude.{ℕ, List, [], ◌∷◌, cond, ◌||◌}
use Rattle.slices.specs.Compare.{begins_with}
use Rattle.notation.specs.Bytes.{contains, contains_pair, trim_start}
use Rattle.notation.specs.declared.barline.Barline.{Barline}
use Rattle.notation.specs.declared.barline.Barline.TheVariants.{Normal, Double, Final, RepeatStart, RepeatEnd, Invisible}
use Rattle.notation.specs.declared.barline.Barlines.{Barlines}

-- "0 Normal, 1 Double, 2 Final, 3 RepeatStart, 4 RepeatEnd, 8 Invisible"
abbrev pub barline_number : Barline → ℕ
barline_number Normal = 0
barline_number Double = 1
barline_number Final = 2
barline_number RepeatStart = 3
barline_number RepeatEnd = 4
barline_number Invisible = 8

-- the bytes =, :, |, ! and -
abbrev pub equals : ℕ
equals = 61

abbrev pub colon : ℕ
colon = 58

abbrev pub bar : ℕ
bar = 124

abbrev pub bang : ℕ
bang = 33

abbrev pub dash : ℕ
dash = 45

-- "`:|` or `:!` gives RepeatEnd; else token begun `==` Final; else `||` Double; else `-` Invisible; else Normal."
unfoldable pub right_of : List ℕ → List ℕ → Barline
right_of token body =
    cond (contains_pair colon bar body || contains_pair colon bang body) RepeatEnd
    (cond (begins_with (equals ∷ equals ∷ []) token) Final
    (cond (contains_pair bar bar body) Double
    (cond (contains dash body) Invisible Normal)))

-- "`|:` or `!:` gives left RepeatStart."
unfoldable pub left_of : List ℕ → Barline
left_of body = cond (contains_pair bar colon body || contains_pair bang colon body) RepeatStart Normal

-- the body is the token "with its leading `=` removed"
unfoldable pub barlines_of : List ℕ → Barlines
barlines_of token =
    record { right = right_of token (trim_start equals token); left = left_of (trim_start equals token) }
