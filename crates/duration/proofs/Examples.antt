-- Worked examples, a table of reciprocals and one of ratios, with one fact over each.
use Prim.Native.Nat.{ℕ}
use mathlib.Core.Bool.{Bool, true, ◌&&◌}
use mathlib.Core.List.{List, [], ◌∷◌}
use lib.Dec.{T}
use Rattle.slices.specs.Ascii.{ascii}
use Rattle.slices.specs.Compare.{same_bytes}
use Rattle.duration.specs.Duration.{digits, number_from, exponent_of, gcd_in, written, written_at, counts, duration_of}
use Rattle.duration.specs.Ratio.{smallest_of, reduced_at, ratio_at, ratio_of, ratio_value, is_ratio, before_percent, behind_percent, spelled_value}
use Rattle.duration.specs.declared.Value.{Value}
use Rattle.duration.specs.declared.Value.TheVariants.{Plain, Tuplet}
use Rattle.std.specs.Prelude.{Option, Some, None}

-- a text, and the sheet's value, actual and normal, with 0, 0 for no tuplet; nothing for no value
data Line : Type 0 where
  ◌writes◌ : List ℕ → List ℕ → Line

infix 70 ◌writes◌
shown : Option Value → List ℕ
shown None = []
shown (Some (Plain v)) = v ∷ 0 ∷ 0 ∷ []
shown (Some (Tuplet v actual normal)) = v ∷ actual ∷ normal ∷ []

right : (List ℕ → Option Value) → List Line → Bool
right reads [] = true
right reads ((s writes v) ∷ ls) = same_bytes v (shown (reads s)) && right reads ls

table : List Line
table =
    -- `3` half 3:2
    (51 ∷ []) writes (3 ∷ 3 ∷ 2 ∷ [])
    -- `255` 128th 255:128
    ∷ (50 ∷ 53 ∷ 53 ∷ []) writes (9 ∷ 255 ∷ 128 ∷ [])
    -- `256`, `000`, `00008` none
    ∷ (50 ∷ 53 ∷ 54 ∷ []) writes []
    ∷ (48 ∷ 48 ∷ 48 ∷ []) writes []
    ∷ (48 ∷ 48 ∷ 48 ∷ 48 ∷ 56 ∷ []) writes []
    -- `0008` eighth
    ∷ (48 ∷ 48 ∷ 48 ∷ 56 ∷ []) writes (5 ∷ 0 ∷ 0 ∷ [])
    -- `0` breve, `00` longa
    ∷ (48 ∷ []) writes (1 ∷ 0 ∷ 0 ∷ [])
    ∷ (48 ∷ 48 ∷ []) writes (0 ∷ 0 ∷ 0 ∷ [])
    -- an empty text, and `4c`, none
    ∷ [] writes []
    ∷ (52 ∷ 99 ∷ []) writes []
    ∷ []

examples : T (right duration_of table)
unfolding right table shown duration_of same_bytes counts digits number_from written written_at exponent_of gcd_in
examples = tt

ratios : List Line
ratios =
    -- two thirds stand under a whole note, one and a half under a breve
    (ascii "3%2") writes (2 ∷ 3 ∷ 2 ∷ [])
    ∷ (ascii "2%3") writes (1 ∷ 4 ∷ 3 ∷ [])
    -- none at 1 to 1
    ∷ (ascii "4%2") writes (3 ∷ 0 ∷ 0 ∷ [])
    ∷ (ascii "1%2") writes (1 ∷ 0 ∷ 0 ∷ [])
    ∷ (ascii "255%255") writes (2 ∷ 0 ∷ 0 ∷ [])
    -- 4 is a longa, and above it there is none
    ∷ (ascii "1%4") writes (0 ∷ 0 ∷ 0 ∷ [])
    ∷ (ascii "1%5") writes []
    ∷ (ascii "63%252") writes (0 ∷ 0 ∷ 0 ∷ [])
    ∷ (ascii "63%253") writes []
    -- actual of 255 at most
    ∷ (ascii "64%255") writes []
    ∷ (ascii "128%129") writes []
    ∷ (ascii "127%255") writes []
    ∷ (ascii "63%251") writes (0 ∷ 252 ∷ 251 ∷ [])
    ∷ (ascii "127%128") writes (1 ∷ 127 ∷ 64 ∷ [])
    -- a 128th for all that is less
    ∷ (ascii "255%1") writes (9 ∷ 255 ∷ 128 ∷ [])
    ∷ (ascii "255%2") writes (8 ∷ 255 ∷ 128 ∷ [])
    ∷ (ascii "255%254") writes (2 ∷ 255 ∷ 254 ∷ [])
    -- 1 to 4 digits each, worth 1 to 255
    ∷ (ascii "0003%0002") writes (2 ∷ 3 ∷ 2 ∷ [])
    ∷ (ascii "00003%2") writes []
    ∷ (ascii "0%2") writes []
    ∷ (ascii "00%2") writes []
    ∷ (ascii "3%0") writes []
    ∷ (ascii "256%3") writes []
    ∷ (ascii "3%256") writes []
    -- without a `%` a reciprocal
    ∷ (ascii "3") writes (3 ∷ 3 ∷ 2 ∷ [])
    ∷ (ascii "0") writes (1 ∷ 0 ∷ 0 ∷ [])
    ∷ []

ratio_examples : T (right spelled_value ratios)
unfolding right ratios shown spelled_value is_ratio before_percent behind_percent ratio_value ratio_of ratio_at reduced_at smallest_of duration_of same_bytes counts digits number_from written written_at exponent_of gcd_in
ratio_examples = tt
