-- "Four bits say which voices a part holds."
use Rattle.std.specs.Prelude.{◌≡◌, ℕ, suc, ◌/◌, ◌%◌, ◌^◌, ◌<◌, List, Bool, ◌||◌, eqb, length, get_or}
use Rattle.std.specs.Prelude as Std
use Rattle.std.specs.Prelude.{Some, None}
use Rattle.std.proofs.Math.Option.{Option, none, some}

-- the voice v is held: bit v of the mask
unfoldable pub bit : ℕ → ℕ → Bool
bit mask v = eqb (mask / 2 ^ v % 2) 1

-- m is the mask with the voice v
pub record WithVoice (mask v m : ℕ) : Type 0 where
  pub more : (w : ℕ) → w < 4 → bit m w ≡ (eqb w v || bit mask w)

-- what a search for a voice finds
abbrev pub voice_of : Std.Option ℕ → Option ℕ
voice_of (Some v) = some v
voice_of None = none

-- the masks of the row's parts are clear; a part's mask stands at its number and 1, as in its cells
pub record Cleared (cells masks : List ℕ) : Type 0 where
  pub clear : (j : ℕ) → j < length cells → get_or masks (get_or cells j 0 / 8) 0 ≡ 0

-- the masks of the row's parts tell which voices are held
pub record Account (cells masks : List ℕ) (held : ℕ → ℕ → Bool) : Type 0 where
  pub tells : (j p v : ℕ) → j < length cells → get_or cells j 0 / 8 ≡ suc p → v < 4 → bit (get_or masks (suc p) 0) v ≡ held p v
