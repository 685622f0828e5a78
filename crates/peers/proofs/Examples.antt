-- Worked neighbours, one table, and one fact over it.
use Prim.Native.Nat.{ℕ, ◌*◌}
use mathlib.Core.Bool.{Bool, true, false, ◌&&◌, beq}
use mathlib.Core.List.{List, [], ◌∷◌, ◌++◌}
use lib.Dec.{T, eqb}
use Rattle.slices.specs.Ascii.{ascii}
use Rattle.slices.specs.Compare.{same_bytes}
use Rattle.duration.specs.Duration.{digits, number_from, exponent_of, gcd_in, written, written_at, counts, duration_of}
use Rattle.duration.specs.Ratio.{smallest_of, reduced_at, ratio_at, ratio_of, ratio_value, is_ratio, before_percent, behind_percent, spelled_value, spelled_length}
use Rattle.duration.specs.Length.{Fraction}
use Rattle.duration.specs.Reciprocal.{decimal, reciprocal_length}
use Rattle.pitch.specs.Pitch.{within}
use Rattle.notation.specs.Bytes.{contains, trim_start}
use Rattle.items.specs.Items.{is_letter, joins, more, first, goes_on, first_piece}
use Rattle.peers.specs.Peers.{only_signs, is_bare, leading, forbids, offer_of, peers_from, all_offer, uniform, peer_reciprocal}

pub data Line : Type 0 where
  -- a token, and whether it is a pitch without a length
  bare : List ℕ → Bool → Line
  -- the tokens on both sides of a column, in kern spines, and the digits that they offer it
  peers : List ℕ → List ℕ → List ℕ → Line
  -- two lengths of one worth, which neighbours spell in two ways, so that they offer none
  apart : List ℕ → List ℕ → Line
  -- the tokens of a record, whether each is in a kern spine, a column, and the digits
  offered : List (List ℕ) → List Bool → ℕ → List ℕ → Line

abbrev pub same_length : Fraction → Fraction → Bool
same_length f g = eqb (f.numerator * g.denominator) (g.numerator * f.denominator)

abbrev pub beside : List ℕ → List ℕ → List ℕ
beside left right = peer_reciprocal (left ∷ ascii "c" ∷ right ∷ []) (true ∷ true ∷ true ∷ []) 1

unfoldable pub holds : Line → Bool
holds (bare token is) = beq (is_bare token) is
holds (peers left right ds) = same_bytes ds (beside left right)
holds (apart a b) = same_length (spelled_length a) (spelled_length b) && same_bytes [] (beside (a ++ ascii "c") (b ++ ascii "e"))
holds (offered ts kern column ds) = same_bytes ds (peer_reciprocal ts kern column)

abbrev pub each : List Line → Bool
each [] = true
each (l ∷ ls) = holds l && each ls

unfoldable pub table : List Line
table =
    bare (ascii "c") true
    ∷ bare (ascii "ccccccc") true
    ∷ bare (ascii "c#-n") true
    ∷ bare (ascii "") false
    ∷ bare (ascii "c(") false
    ∷ bare (ascii "c.") false
    ∷ bare (ascii "cd") false
    ∷ bare (ascii "c#c") false
    ∷ bare (ascii "c e") false
    ∷ bare (ascii "4c") false
    ∷ bare (ascii "r") false
    ∷ peers (ascii "4c") (ascii "4e") (ascii "4")
    -- the same spelling is asked for
    ∷ apart (ascii "4") (ascii "04")
    -- a neighbour need not be a note
    ∷ peers (ascii "4c") (ascii "4x") (ascii "4")
    -- `.`, an empty token, digits only, a blank, a dot, a `%`, digits without a value, and another bare token forbid it
    ∷ peers (ascii "4c") (ascii ".") []
    ∷ peers (ascii "4c") (ascii "") []
    ∷ peers (ascii "4c") (ascii "4") []
    ∷ peers (ascii "4c") (ascii "4e 4g") []
    ∷ peers (ascii "4c") (ascii "4.e") []
    ∷ peers (ascii "4c") (ascii "4%e") []
    ∷ peers (ascii "256c") (ascii "256e") []
    ∷ peers (ascii "4c") (ascii "e") []
    -- a ratio counts as a reciprocal does, by its spelling
    ∷ peers (ascii "3%2c") (ascii "3%2e") (ascii "3%2")
    ∷ apart (ascii "03%2") (ascii "3%2")
    ∷ apart (ascii "6%4") (ascii "3%2")
    ∷ apart (ascii "4%1") (ascii "4")
    ∷ apart (ascii "4") (ascii "4%1")
    ∷ peers (ascii "3%2c4") (ascii "3%2e") (ascii "3%2")
    ∷ peers (ascii "3%2.c") (ascii "3%2.e") []
    ∷ peers (ascii "3%2") (ascii "3%2") []
    ∷ peers (ascii "5%300c") (ascii "5%300e") []
    ∷ peers (ascii "1%5c") (ascii "1%5e") []
    ∷ peers (ascii "3%2%c") (ascii "3%2%e") []
    ∷ peers (ascii "3%2c%") (ascii "3%2e%") []
    ∷ peers (ascii "4%c") (ascii "4%e") []
    ∷ peers (ascii "c3%2") (ascii "e3%2") []
    -- one neighbour is too few; columns outside kern are passed over
    ∷ offered (ascii "4c" ∷ ascii "c" ∷ []) (true ∷ true ∷ []) 1 []
    ∷ offered (ascii "4c" ∷ ascii "c" ∷ ascii "8e" ∷ ascii "4g" ∷ []) (true ∷ true ∷ false ∷ true ∷ []) 1 (ascii "4")
    ∷ []

pub examples : T (each table)
unfolding table holds only_signs is_bare leading forbids offer_of peers_from all_offer uniform contains trim_start is_letter joins more first goes_on first_piece within same_bytes smallest_of reduced_at ratio_at ratio_of ratio_value is_ratio before_percent behind_percent spelled_value spelled_length decimal reciprocal_length digits number_from exponent_of gcd_in written written_at counts duration_of
examples = tt
