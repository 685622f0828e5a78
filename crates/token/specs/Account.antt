-- What the text says of a note token: whether it is one, and how long it lasts, straight from its digits.
use Rattle.std.specs.Prelude.{ℕ, List, [], ◌∷◌, Bool, cond, not, ◌*◌, ◌/◌, ◌^◌, ◌&&◌, ◌||◌, eqb, leb, ltb, length, get_or}
use Rattle.slices.specs.Ascii.{ascii}
use Rattle.slices.specs.Compare.{same_bytes}
use Rattle.duration.specs.Duration.{gcd_of, number, counts}
use Rattle.duration.specs.Length.{Fraction, ◌over◌}
use Rattle.duration.specs.Ratio.{smallest_of, is_ratio, before_percent, behind_percent, spelled_length}
use Rattle.duration.specs.Reciprocal.{dotted}
use Rattle.items.specs.Items.{is_digit, pieces_of, item_of, items}
use Rattle.token.specs.Token.{is_bad, is_blank, is_silent, marks, dots_of, rest_of, grace_from, pitches_of}

-- the first length, as it is spelled, among the pieces before the next blank; none where there is none
unfoldable pub digits_in : List (List ℕ) → List ℕ
digits_in [] = []
digits_in (r ∷ rs) = cond (is_blank (item_of r)) [] (cond (is_digit (get_or r 0 0)) r (digits_in rs))

-- that of the first sub-token
unfoldable pub first_digits : List (List ℕ) → List ℕ
first_digits [] = []
first_digits (r ∷ rs) = cond (is_blank (item_of r)) (first_digits rs) (digits_in (r ∷ rs))

-- "A reciprocal has a value exactly for `0` (breve), `00` (longa), or 1 to 4 digits worth 1 to 255"
unfoldable pub reciprocal_counts : List ℕ → Bool
reciprocal_counts s = same_bytes (ascii "0") s || (same_bytes (ascii "00") s || counts s)

-- "n%m .., n and m each 1 to 4 digits worth 1 to 255"; none "above 4, or whose tuplet doesn't fit a u8"
unfoldable pub tuplet_fits : ℕ → ℕ → Bool
tuplet_fits n m = leb (4 * n / gcd_of (4 * n) (m * 2 ^ smallest_of 9 n m)) 255

unfoldable pub ratio_counts : List ℕ → List ℕ → Bool
ratio_counts n m = counts n && (counts m && (leb (number m) (4 * number n) && tuplet_fits (number n) (number m)))

unfoldable pub has_value : List ℕ → Bool
has_value s = cond (is_ratio s) (ratio_counts (before_percent s) (behind_percent s)) (reciprocal_counts s)

-- "reciprocal n, read or inferred": a token's own digits, else those that its peers give
abbrev pub or_peers : List ℕ → List ℕ → List ℕ
or_peers [] peers = peers
or_peers (x ∷ xs) peers = x ∷ xs

-- a length is there: its own digits have a value, or without digits it is a grace, or its peers' digits have one
abbrev pub has_length : List ℕ → Bool → List ℕ → Bool
has_length [] grace peers = grace || has_value peers
has_length (x ∷ xs) grace peers = has_value (x ∷ xs)

abbrev pub is_grace : List ℕ → Bool
is_grace token = ltb 0 (grace_from 0 (marks (items token)))

-- "a token under a kern spine that gives a note by these rules": `peers` are the digits that are inferred for it, or none
unfoldable pub is_note : List ℕ → List ℕ → Bool
is_note token peers =
    not (is_silent (items token))
    && (not (is_bad (items token))
    && ((rest_of (items token) || not (eqb (length (pitches_of (items token))) 0)) && has_length (first_digits (pieces_of token)) (is_grace token) peers))

-- "lasts 1/n of a whole note (`0` 2, `00` 4; ..) times its factor by the dots the source keeps for it, a grace nothing"; "n%m lasts m/n"
unfoldable pub account_length : List ℕ → List ℕ → Fraction
account_length token peers =
    cond (is_grace token) (0 over 1) (dotted (dots_of (items token)) (spelled_length (or_peers (first_digits (pieces_of token)) peers)))
