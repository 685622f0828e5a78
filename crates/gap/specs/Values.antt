-- The ten values, each as it is tried: in a triplet, in a tuplet, and plain.
use Rattle.std.specs.Prelude.{ℕ, ◌*◌, ◌/◌, ◌%◌, ◌^◌, cond, ◌&&◌, eqb, ltb, leb, Option, None, Some}
use Rattle.duration.specs.Duration.{gcd_of}
use Rattle.gap.specs.declared.Rest.{Rest}

abbrev pub rest : ℕ → ℕ → ℕ → ℕ → Rest
rest value actual normal ticks = record { value = value; actual = actual; normal = normal; ticks = ticks }

-- "at so many divisions to the quarter": a longa, value 0, is 16 quarters, each next value half; none where that is no whole number of
-- ticks "above 0", or none below 2 ^ 32, which the source counts in
unfoldable pub ticks_of : ℕ → ℕ → Option ℕ
ticks_of divisions value =
    let all = divisions * 16 in
    cond (eqb (all % 2 ^ value) 0 && (ltb 0 (all / 2 ^ value) && leb (all / 2 ^ value) 4294967295)) (Some (all / 2 ^ value)) None

-- the value tried with its ticks, where it has any
abbrev pub tried : (ℕ → Option Rest) → Option ℕ → Option Rest
tried by None = None
tried by (Some base) = by base

-- "triplets": two thirds of the value are the ticks
unfoldable pub triplet_by : ℕ → ℕ → ℕ → Option Rest
triplet_by divisions ticks value = tried (λ base. cond (eqb (base * 2) (ticks * 3)) (Some (rest value 3 2 ticks)) None) (ticks_of divisions value)

-- "one tuplet": of a longer value the ticks are normal / actual, in lowest terms and each a u8
abbrev pub in_tuplet : ℕ → ℕ → ℕ → ℕ → Option Rest
in_tuplet value base ticks divisor =
    cond (leb (base / divisor) 255 && leb (ticks / divisor) 255) (Some (rest value (base / divisor) (ticks / divisor) ticks)) None

unfoldable pub tuplet_by : ℕ → ℕ → ℕ → Option Rest
tuplet_by divisions ticks value = tried (λ base. cond (leb base ticks) None (in_tuplet value base ticks (gcd_of base ticks))) (ticks_of divisions value)

-- a "value that fits"
unfoldable pub plain_by : ℕ → ℕ → ℕ → Option Rest
plain_by divisions ticks value = tried (λ base. cond (leb base ticks) (Some (rest value 0 0 base)) None) (ticks_of divisions value)
