-- The next rest of a hole: "triplets, one tuplet, then the longest value that fits".
use Rattle.std.specs.Prelude.{ℕ, zero, suc, ◌+◌, Bool, false, cond, ◌||◌, eqb, Option, None, Some}
use Rattle.gap.specs.Values.{ticks_of, triplet_by, tuplet_by, plain_by}
use Rattle.gap.specs.declared.Rest.{Rest}

abbrev pub or_else : Option Rest → Option Rest → Option Rest
or_else None other = other
or_else (Some rest) other = Some rest

-- "The search stops at the first of the ten values that serves": n values from one on, the longest first
unfoldable pub longest_from : (ℕ → Option Rest) → ℕ → ℕ → Option Rest
longest_from by zero value = None
longest_from by (suc n) value = or_else (by value) (longest_from by n (value + 1))

abbrev pub longest : (ℕ → Option Rest) → Option Rest
longest by = longest_from by 10 0

-- the values below n, the shortest first
unfoldable pub shortest_below : (ℕ → Option Rest) → ℕ → Option Rest
shortest_below by zero = None
shortest_below by (suc n) = or_else (by n) (shortest_below by n)

-- whether some ticks are just so many
abbrev pub just : Option ℕ → ℕ → Bool
just None ticks = false
just (Some base) ticks = eqb base ticks

-- whether one of n values from one on lasts just the ticks
unfoldable pub is_exact : ℕ → ℕ → ℕ → ℕ → Bool
is_exact divisions ticks zero value = false
is_exact divisions ticks (suc n) value = just (ticks_of divisions value) ticks || is_exact divisions ticks n (value + 1)

-- the source tries no tuplet where a value lasts just the ticks
abbrev pub tuplet_of : ℕ → ℕ → Option Rest
tuplet_of divisions ticks = cond (is_exact divisions ticks 10 0) None (shortest_below (tuplet_by divisions ticks) 10)

abbrev pub next_rest : ℕ → ℕ → Option Rest
next_rest divisions ticks =
    or_else (longest (triplet_by divisions ticks)) (or_else (tuplet_of divisions ticks) (longest (plain_by divisions ticks)))
