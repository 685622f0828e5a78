-- Numbers read from a text.
use Rattle.std.specs.Prelude.{ℕ, min, ◌&&◌, cond, List, leb, ltb, length, Option, Some, None}
use Rattle.interpretation.specs.Digits.{all_digits, decimal}

-- the number that a text's digits write, held at `most`; none where a byte is no digit
unfoldable pub number_up_to : ℕ → List ℕ → Option ℕ
number_up_to most s = cond (all_digits s) (Some (min (decimal s) most)) None

-- a text that Rust reads as a u8: one digit or more, 255 at most
unfoldable pub byte_number : List ℕ → Option ℕ
byte_number s = cond (ltb 0 (length s) && all_digits s && leb (decimal s) 255) (Some (decimal s)) None
