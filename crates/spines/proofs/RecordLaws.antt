-- The path tokens of a line are those of its repaired record, and what the reading makes of that record.
use mathlib.Core.Path.{◌≡◌, refl, sym, ap, ◌∙◌}
use Prim.Native.Nat.{ℕ, zero, suc, ◌-◌, ◌≤◌}
use native.Mathlib.Omega.{arith}
use mathlib.Core.List.{List, [], ◌∷◌, ◌++◌, map}
use mathlib.Core.Bool.{Bool, true, false, ◌&&◌}
use lib.Dec.{eqb}
use lib.ListN.{length, take, replicate}
use lib.Seq.{take_all}
use borrow.Author.Tests.{eq-eqb, ne_eqb, eqb-true}
use Rattle.slices.specs.Ascii.{ascii}
use Rattle.slices.specs.Compare.{begins_with, same_bytes}
use Rattle.lines.specs.Tokens.{tokens_of, is_star}
use Rattle.paths.specs.declared.PathToken.{PathToken}
use Rattle.paths.specs.declared.PathToken.TheVariants.{Other}
use Rattle.paths.specs.Token.{path_token}
use Rattle.paths.specs.Record.{star, plain, tokens}
use Rattle.paths.specs.declared.Spine.{Spine}
use Rattle.paths.specs.Voices.{step_row}
use Rattle.paths.specs.Text.{reached, refused, reading, read_record, take_record}
use Rattle.repair.specs.Repair.{each, first_of, is_bar, identical_bars, repair_of, repair_by, repaired, repaired_of}
use Rattle.repair.specs.Record.{record_of}
use Rattle.repair.specs.declared.Repair.{Repair}
use Rattle.repair.specs.declared.Repair.TheVariants.{Whole, Cut, Stars, Bars}
use Rattle.std.proofs.Common.{Ok, Err}
use Rattle.repair.specs.declared.Unrepaired.TheVariants.{Uneven}
use Rattle.repair.proofs.WidthLaws.{Applies, applies, even_width, uneven_width, record_tokens_lem}
use Rattle.spines.specs.Tokens.{path_tokens, record_tokens}

-- the first n tokens
path_take : (n : ℕ) (ts : List (List ℕ)) → n ≤ length ts → path_tokens n ts ≡ map path_token (take n ts)
unfolding path_tokens
path_take zero ts h = refl
path_take (suc n) [] h = absurd (omega arith)
path_take (suc n) (t ∷ ts) h = ap (λ (l : List PathToken). path_token t ∷ l) (path_take n ts (omega arith))

-- and filled with a token that is no path token
path_none : (n : ℕ) (t : List ℕ) → path_token t ≡ Other → path_tokens n [] ≡ map path_token (replicate n t)
unfolding path_tokens
path_none zero t e = refl
path_none (suc n) t e = rw (e, path_none n t e)

path_fill : (n : ℕ) (ts : List (List ℕ)) (t : List ℕ) → length ts ≤ n → path_token t ≡ Other → path_tokens n ts ≡ map path_token (ts ++ replicate (n - length ts) t)
unfolding path_tokens
path_fill n [] t h e =
    let z : n - 0 ≡ n = omega arith in
    rw z (path_none n t e)
path_fill zero (s ∷ ts) t h e = absurd (omega arith)
path_fill (suc n) (s ∷ ts) t h e =
    let z : suc n - suc (length ts) ≡ n - length ts = omega arith in
    rw z (ap (λ (l : List PathToken). path_token s ∷ l) (path_fill n ts t (omega arith) e))

pub star_other : path_token (ascii "*") ≡ Other
unfolding path_token same_bytes
star_other = refl

-- a barline is no path token
bar_other : (t : List ℕ) (b : Bool) → (is_bar t && b) ≡ true → path_token t ≡ Other
unfolding is_bar begins_with path_token same_bytes
bar_other [] b h = refl
bar_other (x ∷ t) b h = go (eqb x 61) refl h
  where
    go : (y : Bool) → eqb x 61 ≡ y → ((y && true) && b) ≡ true → path_token (x ∷ t) ≡ Other
    go true e g = rw (ne_eqb x 42 (λ q. omega (arith, eqb-true x 61 e)))
    go false e g = cc

by_repair_lem : (n : ℕ) (ts : List (List ℕ)) (r : Repair) → Applies n ts r → length (repair_by r n ts) ≡ n → path_tokens n ts ≡ map path_token (repair_by r n ts)
unfolding repair_by identical_bars
by_repair_lem n ts Whole a w = path_take n ts (omega arith) ∙ ap (map path_token) (take_all n ts (omega arith))
by_repair_lem n ts Cut a w = path_take n ts (omega arith)
by_repair_lem n ts Stars a w = path_fill n ts (ascii "*") (omega arith) star_other
by_repair_lem n ts Bars a w = path_fill n ts (first_of ts) (omega (arith, a.0)) (bar_other (first_of ts) (each (same_bytes (first_of ts)) ts) a.1)

module _ (n : ℕ) (line : List ℕ) where
  module _ {r : Repair} (even : repaired_of n (tokens_of line) ≡ Ok r) where
    -- the code reads the tokens of the line as it stands
    pub repaired_tokens : record_tokens n line ≡ map path_token (repaired n (tokens_of line))
    repaired_tokens = by_repair_lem n (tokens_of line) (repair_of n (tokens_of line)) (applies n (tokens_of line)) (even_width n (tokens_of line) even)

    pub star_record : is_star line ≡ true → record_of n line ≡ star (record_tokens n line)
    unfolding record_of
    star_record s = rw s (ap star (sym repaired_tokens))

    pub plain_record : is_star line ≡ false → record_of n line ≡ plain n
    unfolding record_of
    plain_record s = rw s (ap plain (even_width n (tokens_of line) even))

  -- the reading of such a record: "begun by `*` it makes the next row by Paths", "any other keeps the row", and question 6
  module _ (s : Spine) (row : List Spine) (size : length (s ∷ row) ≡ n) where
    pub takes : {r : Repair} → repaired_of n (tokens_of line) ≡ Ok r → take_record (s ∷ row) (record_of n line) ≡ read_record (s ∷ row) (record_of n line)
    unfolding take_record
    takes even = rw (eq-eqb (tokens (record_of n line)) (suc (length row)) (record_tokens_lem n line ∙ even_width n (tokens_of line) even ∙ sym size))

    pub takes_star : {r : Repair} → repaired_of n (tokens_of line) ≡ Ok r → is_star line ≡ true →
        take_record (s ∷ row) (record_of n line) ≡ reading (step_row (s ∷ row) (record_tokens n line))
    takes_star even h = takes even ∙ ap (read_record (s ∷ row)) (star_record even h)

    pub takes_plain : {r : Repair} → repaired_of n (tokens_of line) ≡ Ok r → is_star line ≡ false → take_record (s ∷ row) (record_of n line) ≡ reached (s ∷ row)
    takes_plain even h = takes even ∙ ap (read_record (s ∷ row)) (plain_record even h)

    pub refuses : {k : ℕ} → repaired_of n (tokens_of line) ≡ Err (Uneven k) → take_record (s ∷ row) (record_of n line) ≡ refused 6 k
    unfolding take_record
    refuses {k} uneven =
        let count : tokens (record_of n line) ≡ k = record_tokens_lem n line ∙ sym (uneven_width n (tokens_of line) uneven).0 in
        rw (count, ne_eqb k (suc (length row)) (λ e. (uneven_width n (tokens_of line) uneven).1 (e ∙ size)))
