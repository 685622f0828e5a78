-- The repairs and the two questions on small records: one table, proved by one computation.
use mathlib.Core.Path.{◌≡◌, refl}
use mathlib.Core.List.{List, [], ◌∷◌, map, head_d}
use Prim.Native.Nat.{ℕ}
use Prim.Native.String.{String}
use Rattle.slices.specs.Ascii.{ascii}
use Rattle.slices.specs.Split.{join, split}
use Rattle.slices.specs.Compare.{begins_with, same_bytes}
use Rattle.lines.specs.Tokens.{tokens_of, is_star, is_empty}
use Rattle.paths.specs.Token.{path_token}
use Rattle.repair.specs.Repair.{each, is_ordinary, is_bar, identical_bars, repair_of, repair_by, questions, Repaired, repaired_of, repaired}
use Rattle.std.proofs.Common.{Ok, Err}
use Rattle.repair.specs.declared.Unrepaired.TheVariants.{Uneven, Mixed}
use Rattle.repair.specs.declared.Repair.TheVariants.{Whole, Cut, Stars, Bars}

record Example : Type 0 where
  active : ℕ
  line : List ℕ
  answer : Repaired

example : ℕ → String → Repaired → Example
example n s r = record { active = n; line = ascii s; answer = r }

examples : List Example
examples =
    example 2 "4c\t4e" (Ok Whole)
    -- the figure of 6 is the record's own count
    ∷ example 1 "4c\t\t4d" (Err (Uneven 3))
    ∷ example 2 "4c" (Err (Uneven 1))
    -- surplus empty tokens are cut from any record; a blank is no empty token
    ∷ example 1 "4c\t\t" (Ok Cut)
    ∷ example 1 "=1\t" (Ok Cut)
    ∷ example 1 "*M4/4\t" (Ok Cut)
    ∷ example 1 "4c\t " (Err (Uneven 2))
    -- 7 where the width fits, also after a cut; 6 comes first
    ∷ example 2 "*\t" (Err Mixed)
    ∷ example 2 "*\tx\t" (Err Mixed)
    ∷ example 1 "*\tv" (Err (Uneven 2))
    ∷ example 2 "4c\t*" (Ok Whole)
    -- filled with `*`: an exclusive interpretation too, and no record with a path token
    ∷ example 3 "**kern\t*" (Ok Stars)
    ∷ example 3 "*\t*x" (Err (Uneven 2))
    ∷ example 3 "*^" (Err (Uneven 1))
    ∷ example 3 "*\t4c" (Err (Uneven 2))
    -- filled with the barline: two at least, and all identical
    ∷ example 3 "=1\t=1" (Ok Bars)
    ∷ example 3 "=1\t=2" (Err (Uneven 2))
    ∷ example 2 "=1" (Err (Uneven 1))
    ∷ []

answers : map (λ (e : Example). repaired_of e.active (tokens_of e.line)) examples ≡ map (λ (e : Example). e.answer) examples
unfolding examples example split join same_bytes begins_with is_star is_empty path_token each is_ordinary is_bar identical_bars repair_of repair_by questions head_d
answers = refl

-- a filled token is a `*`, or a copy of the first
filled : map (λ (s : List ℕ). repaired 3 (tokens_of s)) (ascii "*a\t*b" ∷ ascii "=1\t=1" ∷ []) ≡
    (ascii "*a" ∷ ascii "*b" ∷ ascii "*" ∷ []) ∷ (ascii "=1" ∷ ascii "=1" ∷ ascii "=1" ∷ []) ∷ []
unfolding split join same_bytes begins_with is_star is_empty path_token each is_ordinary is_bar identical_bars repair_of repair_by head_d
filled = refl
