-- Key signatures and key designations.
use Rattle.std.specs.Prelude.{ℕ, ◌-◌, ◌/◌, ◌%◌, pos, neg_ℤ, Bool, ◌&&◌, cond, List, eqb, leb, length, get_or, take, Result, Ok, Err}
use Rattle.slices.specs.Ascii.{ascii}
use Rattle.slices.specs.Compare.{begins_with}
use Rattle.interpretation.specs.declared.Interpretation.{Interpretation}
use Rattle.interpretation.specs.declared.Interpretation.TheVariants.{Key, Mode}
use Rattle.interpretation.specs.declared.key.Mode.{Mode as KeyMode}
use Rattle.interpretation.specs.declared.key.Mode.TheVariants.{Major, Minor}
use Rattle.interpretation.specs.declared.Unsupported.{Unsupported}
use Rattle.interpretation.specs.declared.Unsupported.TheVariants.{OpenKey, OtherKey, Other}

-- whether a text's last byte is b, for a b above 0
unfoldable pub ends_with : ℕ → List ℕ → Bool
ends_with b s = eqb (get_or s (length s - 1) 0) b

-- a text without its last byte
unfoldable pub without_last : List ℕ → List ℕ
without_last s = take (length s - 1) s

-- `SHARP_ORDER` and `FLAT_ORDER` of notation.rs, in lower case, each step with its sign
abbrev pub sharp_order : List ℕ
sharp_order = ascii "f#c#g#d#a#e#b#"

abbrev pub flat_order : List ℕ
flat_order = ascii "b-e-a-d-g-c-f-"

-- whether a text is a prefix of an order: its first steps, from none to all seven, two bytes to each
unfoldable pub is_prefix : List ℕ → List ℕ → Bool
is_prefix order s = eqb (length s % 2) 0 && begins_with s order

-- request E7: "The standard ones are the prefixes of `SHARP_ORDER` and `FLAT_ORDER`"; as many fifths as steps, flats below 0; "anything else in closed brackets is notice 11"
unfoldable pub signature_of : List ℕ → Result Interpretation Unsupported
signature_of s =
    cond (is_prefix sharp_order s) (Ok (Key (pos (length s / 2))))
    (cond (is_prefix flat_order s) (Ok (Key (neg_ℤ (pos (length s / 2))))) (Err OtherKey))

-- document 01: "10 key without `]`"
unfoldable pub key_of : List ℕ → Result Interpretation Unsupported
key_of s = cond (ends_with 93 s) (signature_of (without_last s)) (Err OpenKey)

-- document 01: "mode (1 minor)"
abbrev pub mode_number : KeyMode → ℕ
mode_number Major = 0
mode_number Minor = 1

-- a tonic begins with a letter `A` to `G`, major, or `a` to `g`, minor
unfoldable pub tonic_mode : ℕ → Result Interpretation Unsupported
tonic_mode b = cond (leb 65 b && leb b 71) (Ok (Mode Major)) (cond (leb 97 b && leb b 103) (Ok (Mode Minor)) (Err Other))

-- a tonic of three bytes at most and a `:`; document 01: "15 other interpretation"
unfoldable pub mode_of : List ℕ → Result Interpretation Unsupported
mode_of body = cond (leb (length (without_last body)) 3 && ends_with 58 body) (tonic_mode (get_or (without_last body) 0 0)) (Err Other)
