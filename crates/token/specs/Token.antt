-- What a token says, aspect by aspect, over its items. A blank ends a sub-token; empty sub-tokens are passed over.
use Rattle.std.specs.Prelude.{ℕ, zero, ◌+◌, min, List, [], ◌∷◌, ◌++◌, Bool, true, false, cond, not, ◌&&◌, ◌||◌, eqb, ltb, Option, Some, None}
use Rattle.slices.specs.Ascii.{ascii}
use Rattle.notation.specs.Bytes.{contains}
use Rattle.pitch.specs.Pitch.{pitch_of, altered_by}
use Rattle.pitch.specs.declared.Pitch.{Pitch}
use Rattle.duration.specs.declared.Value.{Value}
use Rattle.items.specs.Items.{is_digit, is_letter}
use Rattle.items.specs.declared.Item.{Item}
use Rattle.items.specs.declared.Item.TheVariants.{Digits, Ratio, Letters, Blank, Mark}
use Rattle.token.specs.declared.scan.Before.{Before}
use Rattle.token.specs.declared.scan.Before.TheVariants.{Nothing as Nothing_before, Right, Further, Ratio as Ratio_before}
use Rattle.token.specs.declared.scan.Given.{Given}
use Rattle.token.specs.declared.scan.Given.TheVariants.{Nothing, NoValue, Length}
use Rattle.token.specs.declared.pitches.Tone.{Tone}

-- ---- lengths
abbrev pub is_nothing : Before → Bool
is_nothing Nothing_before = true
is_nothing Right = false
is_nothing Further = false
is_nothing Ratio_before = false

-- once another piece stands between
abbrev pub passed : Before → Before
passed Nothing_before = Nothing_before
passed Right = Further
passed Further = Further
passed Ratio_before = Ratio_before

-- a `%` right behind digits is bad, and any `%` behind a ratio: "further digits or `%` there give notice 16"
abbrev pub percent_bad : Before → Bool
percent_bad Nothing_before = false
percent_bad Right = true
percent_bad Further = false
percent_bad Ratio_before = true

-- "16 `%` or repeated length"; "An n%m counts where a first sub-token's first digits begin it": `begun` says that the sub-token has an item, and `later`
-- that it isn't the first that has one
unfoldable pub bad_length : Bool → Bool → Before → List Item → Bool
bad_length later begun before [] = false
bad_length later begun before (Digits v ∷ is) = not (is_nothing before) || bad_length later true Right is
bad_length later begun before (Ratio v ∷ is) = not (is_nothing before) || later || bad_length later true Ratio_before is
bad_length later begun before (Letters c n ∷ is) = bad_length later true (passed before) is
bad_length later begun before (Blank ∷ is) = bad_length (later || begun) false Nothing_before is
bad_length later begun before (Mark b ∷ is) = eqb b 37 && percent_bad before || bad_length later true (passed before) is

abbrev pub is_bad : List Item → Bool
is_bad is = bad_length false false Nothing_before is

-- ---- the first sub-token, whose length, dots and rest are the token's: "chord length from its first sub-token"
abbrev pub is_blank : Item → Bool
is_blank (Digits v) = false
is_blank (Ratio v) = false
is_blank (Letters c n) = false
is_blank Blank = true
is_blank (Mark b) = false

-- the items before the next blank
unfoldable pub up_to_blank : List Item → List Item
up_to_blank [] = []
up_to_blank (i ∷ is) = cond (is_blank i) [] (i ∷ up_to_blank is)

unfoldable pub first_sub : List Item → List Item
first_sub [] = []
first_sub (i ∷ is) = cond (is_blank i) (first_sub is) (i ∷ up_to_blank is)

-- blanks only, or nothing at all
unfoldable pub is_silent : List Item → Bool
is_silent [] = true
is_silent (i ∷ is) = is_blank i && is_silent is

-- what a length gives: its value, or that it writes none
abbrev pub given_by : Option Value → Given
given_by None = NoValue
given_by (Some v) = Length v

-- what the first length gives, if there is one
unfoldable pub given_in : List Item → Given
given_in [] = Nothing
given_in (Digits v ∷ is) = given_by v
given_in (Ratio v ∷ is) = given_by v
given_in (Letters c n ∷ is) = given_in is
given_in (Blank ∷ is) = given_in is
given_in (Mark b ∷ is) = given_in is

-- ---- single bytes: those that are no digits, no letters a to g and A to G, and no blanks, nor the `%` of a ratio
unfoldable pub marks : List Item → List ℕ
marks [] = []
marks (Digits v ∷ is) = marks is
marks (Ratio v ∷ is) = marks is
marks (Letters c n ∷ is) = marks is
marks (Blank ∷ is) = marks is
marks (Mark b ∷ is) = b ∷ marks is

unfoldable pub count_of : ℕ → List ℕ → ℕ
count_of b [] = zero
count_of b (x ∷ xs) = cond (eqb x b) 1 0 + count_of b xs

-- "dots capped at 3"
unfoldable pub dots_of : List Item → ℕ
dots_of is = min 3 (count_of 46 (marks (first_sub is)))

unfoldable pub rest_of : List Item → Bool
rest_of is = contains 114 (marks (first_sub is))

-- whether one of the bytes of a word stands in a list
unfoldable pub any_of : List ℕ → List ℕ → Bool
any_of word [] = false
any_of word (x ∷ xs) = contains x word || any_of word xs

-- the last of `q` (2, slashed) and `Q` (1, plain); 0 where there is none
unfoldable pub grace_by : ℕ → ℕ → ℕ
grace_by grace b = cond (eqb b 113) 2 (cond (eqb b 81) 1 grace)

unfoldable pub grace_from : ℕ → List ℕ → ℕ
grace_from grace [] = grace
grace_from grace (b ∷ bs) = grace_from (grace_by grace b) bs

-- "per articulation u8 (0 staccato, 1 accent, 2 tenuto, 3 fermata, 4 trill)"; 5 for any other byte
unfoldable pub articulation : ℕ → ℕ
articulation b =
    cond (eqb b 39) 0
    (cond (eqb b 94) 1
    (cond (eqb b 126) 2
    (cond (eqb b 59) 3
    (cond (eqb b 84) 4
    (cond (eqb b 116) 4 5)))))

unfoldable pub articulations_in : List ℕ → List ℕ
articulations_in [] = []
articulations_in (b ∷ bs) = cond (ltb (articulation b) 5) (articulation b ∷ articulations_in bs) (articulations_in bs)

abbrev pub articulations_of : List Item → List ℕ
articulations_of is = articulations_in (marks is)

-- ---- pitches
-- whether a run of letters is the pitch of a sub-token: it has none yet, and the run fits
abbrev pub fits : Bool → Option Pitch → Bool
fits true p = false
fits false (Some p) = true
fits false None = false

-- a sub-token's pitch begins natural: an alteration is held with 128 added
abbrev pub begun : Option Tone → Option Pitch → Option Tone
begun None (Some p) = Some (record { step = p.step; octave = p.octave; alter = 128 })
begun None None = None
begun (Some t) p = Some t

-- a byte behind the pitch: the signs `#`, `-` and `n` alter it
abbrev pub signed : Option Tone → ℕ → Option Tone
signed None b = None
signed (Some t) b = Some (record { step = t.step; octave = t.octave; alter = altered_by t.alter b })

abbrev pub given : Option Tone → List Tone
given None = []
given (Some t) = t ∷ []

-- the pitches in order, one of each sub-token that has one; the first argument is that of the sub-token so far
unfoldable pub heard : Option Tone → List Item → List Tone
heard s [] = given s
heard s (Digits v ∷ is) = heard s is
heard s (Ratio v ∷ is) = heard s is
heard s (Letters c n ∷ is) = heard (begun s (pitch_of c n)) is
heard s (Blank ∷ is) = given s ++ heard None is
heard s (Mark b ∷ is) = heard (signed s b) is

abbrev pub pitches_of : List Item → List Tone
pitches_of is = heard None is

-- ---- signifiers
abbrev pub signs : List ℕ
signs = ascii "#-n"

-- the marks with a meaning
abbrev pub known : List ℕ
known = ascii ".r[]_()LJqQ'^~;Tt"

-- whether a mark is imported: a sign where its sub-token has a pitch, or a mark with a meaning
unfoldable pub passes : Bool → ℕ → Bool
passes sounding b = cond (contains b signs) sounding (contains b known)

-- whether a byte is an unknown mark: no digit, letter, space, `%`, sign or known mark
unfoldable pub is_unknown : ℕ → Bool
is_unknown b = not (is_digit b || is_letter b || contains b (ascii " %") || contains b signs || contains b known)

-- "17 signifiers": letters of runs that are no pitch, once each, and unknown marks; `sounding` says that the
-- sub-token has a pitch
unfoldable pub signifiers : Bool → List Item → List ℕ
signifiers sounding [] = []
signifiers sounding (Digits v ∷ is) = signifiers sounding is
signifiers sounding (Ratio v ∷ is) = signifiers sounding is
signifiers sounding (Letters c n ∷ is) =
    cond (fits sounding (pitch_of c n)) (signifiers true is) (c ∷ signifiers sounding is)
signifiers sounding (Blank ∷ is) = signifiers false is
signifiers sounding (Mark b ∷ is) = cond (passes sounding b) (signifiers sounding is) (b ∷ signifiers sounding is)

abbrev pub signifiers_of : List Item → List ℕ
signifiers_of is = signifiers false is
