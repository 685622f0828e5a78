-- What a repair comes to, case by case as the code tells them apart.
use Rattle.std.proofs.Common.{Ok, Err}
use mathlib.Core.Path.{◌≡◌, refl, sym, ap, ◌∙◌}
use Prim.Native.Nat.{ℕ, zero, suc, ◌-◌, ◌≤◌, ◌<◌}
use native.Mathlib.Omega.{arith}
use mathlib.Core.List.{List, [], ◌∷◌, ◌++◌}
use mathlib.Core.Bool.{Bool, true, false, ◌&&◌, not, cond}
use lib.Dec.{eqb, leb}
use lib.ListN.{length, take, drop, replicate, length-append, length-replicate}
use lib.Seq.{length-take-le, take_all}
use borrow.Author.Tests.{lt-ltb, le-ltb, le-leb, lt-leb, eq-eqb, ne_eqb, eqb-true}
use Rattle.slices.specs.Ascii.{ascii}
use Rattle.slices.specs.Compare.{begins_with, same_bytes}
use Rattle.lines.specs.Tokens.{is_star, is_empty}
use Rattle.paths.specs.Token.{path_token}
use Rattle.repair.specs.Repair.{each, first_of, is_other, is_ordinary, is_bar, identical_bars, repair_of, repair_by, questions, repaired_of}
use Rattle.repair.specs.declared.Repair.TheVariants.{Whole, Cut, Stars, Bars}
use Rattle.repair.specs.declared.Unrepaired.TheVariants.{Uneven, Mixed}

-- ---- tests of each token

each_append : (test : List ℕ → Bool) (a b : List (List ℕ)) → each test (a ++ b) ≡ (each test a && each test b)
unfolding each
each_append test [] b = refl
each_append test (t ∷ a) b = ap (λ (x : Bool). test t && x) (each_append test a b) ∙ go (test t)
  where
    go : (x : Bool) → (x && (each test a && each test b)) ≡ ((x && each test a) && each test b)
    go true = refl
    go false = refl

each_replicate : (test : List ℕ → Bool) (t : List ℕ) (n : ℕ) → test t ≡ true → each test (replicate n t) ≡ true
unfolding each
each_replicate test t zero e = refl
each_replicate test t (suc n) e = rw (e, each_replicate test t n e)

-- ordinary tokens all begin `*`
each_ordinary : (ts : List (List ℕ)) → each is_ordinary ts ≡ true → each is_star ts ≡ true
unfolding each is_ordinary
each_ordinary [] e = refl
each_ordinary (t ∷ ts) e = go (is_star t) (is_other (path_token t)) (each_ordinary ts) e
  where
    go : (a b : Bool) → (each is_ordinary ts ≡ true → each is_star ts ≡ true) → ((a && b) && each is_ordinary ts) ≡ true → (a && each is_star ts) ≡ true
    go true true on h = on h
    go true false on h = cc
    go false b on h = cc

never_mixed : (a : Bool) → (a && not true) ≡ false
never_mixed true = refl
never_mixed false = refl

star_is_star : is_star (ascii "*") ≡ true
unfolding is_star begins_with
star_is_star = refl

-- a record of barlines doesn't begin `*`
bars_no_star : (ts : List (List ℕ)) → identical_bars ts ≡ true → is_star (first_of ts) ≡ false
unfolding identical_bars is_bar is_star begins_with
bars_no_star ts h = go (first_of ts) (each (same_bytes (first_of ts)) ts) h
  where
    by : (x : ℕ) (b y : Bool) → eqb x 61 ≡ y → ((y && true) && b) ≡ true → (eqb x 42 && true) ≡ false
    by x b true e g = rw (ne_eqb x 42 (λ q. omega (arith, eqb-true x 61 e)))
    by x b false e g = cc

    go : (t : List ℕ) (b : Bool) → (is_bar t && b) ≡ true → is_star t ≡ false
    go [] b g = refl
    go (x ∷ t) b g = by x b (eqb x 61) refl g

-- ---- the cases

module _ (n : ℕ) (ts : List (List ℕ)) where
  full_length : (t : List ℕ) → length ts < n → length (ts ++ replicate (n - length ts) t) ≡ n
  full_length t few = simp (length-append, length-replicate) (omega arith)

  module _ (more : n < length ts) where
    cut_is : each is_empty (drop n ts) ≡ true → repair_of n ts ≡ Cut
    unfolding repair_of
    cut_is b = rw (lt-ltb _ _ more, b)

    pub surplus : each is_empty (drop n ts) ≡ false → Err (Uneven (length ts)) ≡ repaired_of n ts
    unfolding repair_of questions repair_by
    surplus b = sym (rw (lt-ltb n (length ts) more, b, le-ltb (length ts) n (omega arith), ne_eqb (length ts) n (λ e. omega arith)))

    module _ (b : each is_empty (drop n ts) ≡ true) where
      cut_by : repaired_of n ts ≡ cond (is_star (first_of ts) && not (each is_star (take n ts))) (Err Mixed) (Ok Cut)
      unfolding questions repair_by
      cut_by = ap (questions n ts) (cut_is b) ∙ rw (eq-eqb (length (take n ts)) n (length-take-le n ts (omega arith)))

      pub cut_mixed : (is_star (first_of ts) && not (each is_star (take n ts))) ≡ true → Err Mixed ≡ repaired_of n ts
      cut_mixed m = sym (cut_by ∙ rw m)

      pub cut_even : (is_star (first_of ts) && not (each is_star (take n ts))) ≡ false → Ok Cut ≡ repaired_of n ts
      cut_even m = sym (cut_by ∙ rw m)

  module _ (few : length ts < n) where
    stars_is : each is_ordinary ts ≡ true → repair_of n ts ≡ Stars
    unfolding repair_of
    stars_is o = rw (le-ltb n (length ts) (omega arith), lt-ltb (length ts) n few, o)

    stars_stay : each is_ordinary ts ≡ true → each is_star (ts ++ replicate (n - length ts) (ascii "*")) ≡ true
    stars_stay o = each_append is_star ts (replicate (n - length ts) (ascii "*")) ∙ rw (each_ordinary ts o, each_replicate is_star (ascii "*") (n - length ts) star_is_star)

    pub filled_stars : each is_ordinary ts ≡ true → Ok Stars ≡ repaired_of n ts
    unfolding questions repair_by
    filled_stars o = sym (ap (questions n ts) (stars_is o) ∙ rw (eq-eqb _ _ (full_length (ascii "*") few), stars_stay o, never_mixed (is_star (first_of ts))))

    module _ (o : each is_ordinary ts ≡ false) where
      short_is : (leb 2 (length ts) && identical_bars ts) ≡ false → Err (Uneven (length ts)) ≡ repaired_of n ts
      unfolding repair_of questions repair_by
      short_is b = sym (rw (le-ltb n (length ts) (omega arith), lt-ltb (length ts) n few, o, b, ne_eqb (length ts) n (λ e. omega arith)))

      pub few_one : length ts < 2 → Err (Uneven (length ts)) ≡ repaired_of n ts
      few_one h = short_is (rw (lt-leb 2 (length ts) h))

      module _ (two : 2 ≤ length ts) where
        pub few_other : identical_bars ts ≡ false → Err (Uneven (length ts)) ≡ repaired_of n ts
        few_other i = short_is (rw (le-leb 2 (length ts) two, i))

        bars_is : identical_bars ts ≡ true → repair_of n ts ≡ Bars
        unfolding repair_of
        bars_is i = rw (le-ltb n (length ts) (omega arith), lt-ltb (length ts) n few, o, le-leb 2 (length ts) two, i)

        pub filled_bars_lem : identical_bars ts ≡ true → Ok Bars ≡ repaired_of n ts
        unfolding questions repair_by
        filled_bars_lem i = sym (ap (questions n ts) (bars_is i) ∙ rw (eq-eqb _ _ (full_length (first_of ts) few), bars_no_star ts i))

  module _ (k : ℕ) (same : k ≡ length ts) (fits : k ≡ n) where
    whole_by : repaired_of n ts ≡ cond (is_star (first_of ts) && not (each is_star (take k ts))) (Err Mixed) (Ok Whole)
    unfolding repair_of questions repair_by
    whole_by = rw (le-ltb n (length ts) (omega arith), le-ltb (length ts) n (omega arith), eq-eqb (length ts) n (omega arith), take_all k ts (omega arith))

    pub whole_mixed : (is_star (first_of ts) && not (each is_star (take k ts))) ≡ true → Err Mixed ≡ repaired_of n ts
    whole_mixed m = sym (whole_by ∙ rw m)

    pub whole_even : (is_star (first_of ts) && not (each is_star (take k ts))) ≡ false → Ok Whole ≡ repaired_of n ts
    whole_even m = sym (whole_by ∙ rw m)
