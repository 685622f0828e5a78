-- The searches over the ten values, as the chains and the loop go through them.
use Rattle.std.specs.Prelude.{Option, None, Some, IfSome, IsTrue}
use Rattle.std.specs.Option.{MatchOption, IsSomeAnd, option_map}
use Rattle.std.specs.Fn.{Called}
use Rattle.std.specs.Iterator.Adapters.{rev_steps, RevKeepsRuns}
use Rattle.std.specs.declared.iter.Rev.{Rev}
use Rattle.std.specs.declared.ops.Range.{Range}
use Rattle.std.proofs.iter.runs.Sources.{range_runs, range_runs_back, nat_range_steps_back}
use Rattle.std.proofs.iter.Yields.{nat_range_steps}
use Rattle.std.specs.Iterator.Runs.{Run, SomeRun, ItemsCountUp, ItemsCountDown, AllItemsGive, IsFirstToGive, CallKeepsClosure}
use denote.Param.Members.{Mut}
use mathlib.Core.Path.{◌≡◌, refl, sym, ap, subst, ◌∙◌}
use Prim.Native.Nat.{ℕ, zero, suc, ◌+◌, ◌-◌, ◌≤◌, ◌<◌}
use native.Mathlib.Nat.{zero-add}
use native.Mathlib.Omega.{arith}
use mathlib.Core.Bool.{Bool, true, false, ◌||◌}
use Rattle.slices.proofs.TestLaws.{clash}
use Rattle.gap.specs.Values.{ticks_of}
use Rattle.gap.specs.Next.{or_else, longest_from, longest, shortest_below, just, is_exact}
use Rattle.gap.specs.declared.Rest.{Rest}

-- ---- the first that serves

pub longest_none : (by : ℕ → Option Rest) (n v : ℕ) → ((k : ℕ) → v ≤ k → k < v + n → by k ≡ None) → longest_from by n v ≡ None
unfolding longest_from
longest_none by zero v none = refl
longest_none by (suc n) v none =
    ap (λ (x : Option Rest). or_else x (longest_from by n (v + 1))) (none v (omega arith) (omega arith))
    ∙ longest_none by n (v + 1) (λ k a b. none k (omega arith) (omega arith))

longest_some : (by : ℕ → Option Rest) {r : Rest} {i : ℕ} → by i ≡ Some r → (n v : ℕ) → v ≤ i → i < v + n → ((k : ℕ) → v ≤ k → k < i → by k ≡ None)
    → longest_from by n v ≡ Some r
unfolding longest_from
longest_some by {r} {i} e zero v low high none = absurd (omega arith)
longest_some by {r} {i} e (suc n) v low high none =
    go (i - v) refl (λ later. longest_some by e n (v + 1) later (omega arith) (λ k a b. none k (omega arith) b))
  where
    go : (d : ℕ) → i - v ≡ d → (v + 1 ≤ i → longest_from by n (v + 1) ≡ Some r) → or_else (by v) (longest_from by n (v + 1)) ≡ Some r
    go zero z later = let same : i ≡ v = omega arith in ap (λ (x : Option Rest). or_else x (longest_from by n (v + 1))) (sym (ap by same) ∙ e)
    go (suc d) z later = ap (λ (x : Option Rest). or_else x (longest_from by n (v + 1))) (none v (omega arith) (omega arith)) ∙ later (omega arith)

pub shortest_none : (by : ℕ → Option Rest) (n : ℕ) → ((k : ℕ) → k < n → by k ≡ None) → shortest_below by n ≡ None
unfolding shortest_below
shortest_none by zero none = refl
shortest_none by (suc n) none =
    ap (λ (x : Option Rest). or_else x (shortest_below by n)) (none n (omega arith)) ∙ shortest_none by n (λ k h. none k (omega arith))

shortest_some : (by : ℕ → Option Rest) {r : Rest} {i : ℕ} → by i ≡ Some r → (n : ℕ) → i < n → ((k : ℕ) → i < k → k < n → by k ≡ None)
    → shortest_below by n ≡ Some r
unfolding shortest_below
shortest_some by {r} {i} e zero high none = absurd (omega arith)
shortest_some by {r} {i} e (suc n) high none =
    go (n - i) refl (λ later. shortest_some by e n later (λ k a b. none k a (omega arith)))
  where
    go : (d : ℕ) → n - i ≡ d → (i < n → shortest_below by n ≡ Some r) → or_else (by n) (shortest_below by n) ≡ Some r
    go zero z later = let same : i ≡ n = omega arith in ap (λ (x : Option Rest). or_else x (shortest_below by n)) (sym (ap by same) ∙ e)
    go (suc d) z later = ap (λ (x : Option Rest). or_else x (shortest_below by n)) (none n (omega arith) (omega arith)) ∙ later (omega arith)

-- ---- the item at a place

item_is : (o : Option ℕ) (P : ℕ → Type 0) {n : ℕ} → option_map (λ y. y) o ≡ Some n → IfSome o P → P n
item_is None P e h = clash cc
item_is (Some x) P {n} e h = let same : x ≡ n = cc in subst P same h

item_and : (o : Option ℕ) (P : ℕ → Type 0) {n : ℕ} → option_map (λ y. y) o ≡ Some n → IsSomeAnd o P → P n
item_and None P e h = absurd h
item_and (Some x) P {n} e h = let same : x ≡ n = cc in subst P same h

-- ---- a chain over the ten values

module _ {S F : Type 0} {steps : S → Option ℕ → S → Type 0} (g : Mut F (ℕ × Unit {0}) (Option Rest)) (f : F) (by : ℕ → Option Rest)
    (says : (x : ℕ) (r : Option Rest) (q : F) → Called g f (x, tt) r q → (q ≡ f) × (r ≡ by x)) (p : Run steps) where
  keeps : CallKeepsClosure g f
  keeps a r q c = (says a.0 r q c).0

  abbrev pub Found : Option Rest → Type 0
  Found result = MatchOption result (IsTrue p.whole × AllItemsGive p g f None)
      (λ y. (i : ℕ) × (i < p.len) × (p.len ≡ i + 1) × IsFirstToGive p g f (Some y) None i)

  module _ (up : ItemsCountUp p 0 10) where
    at_place : (k : ℕ) → k < p.len → option_map (λ y. y) (p.at k) ≡ Some k
    at_place k h = up.3 k h ∙ ap Some (zero-add k)

    up_none : (k : ℕ) → k < p.len → IfSome (p.at k) (λ x. Called g f (x, tt) None f) → by k ≡ None
    up_none k h c = sym (says k None f (item_is (p.at k) (λ x. Called g f (x, tt) None f) (at_place k h) c)).1

    pub longest_found : (result : Option Rest) → Found result → result ≡ longest by
    longest_found None h =
        sym (longest_none by 10 0 (λ k a b. up_none k (omega (arith, up.1 h.0)) (h.1 keeps k)))
    longest_found (Some y) h =
        let first = h.3 keeps in
        sym (longest_some by (sym (says h.0 (Some y) f (item_and (p.at h.0) (λ x. Called g f (x, tt) (Some y) f) (at_place h.0 h.1) first.0)).1) 10 0 (omega arith) (omega (arith, h.1, up.0))
        (λ k a b. sym (says k None f (item_and (p.at k) (λ x. Called g f (x, tt) None f) (at_place k (omega (arith, h.1))) (first.1 k b))).1))

  module _ (n : ℕ) (down : ItemsCountDown p 0 n) where
    pub shortest_found : (result : Option Rest) → Found result → result ≡ shortest_below by n
    shortest_found None h =
        sym (shortest_none by n (λ k b.
        let i : n - 1 - (n - 1 - k) ≡ k = omega arith in
        ap by (sym i) ∙ sym (says (n - 1 - (n - 1 - k)) None f (item_is (p.at (n - 1 - k)) (λ x. Called g f (x, tt) None f) (down.3 (n - 1 - k) (omega (arith, down.1 h.0))) (h.1 keeps (n - 1 - k)))).1))
    shortest_found (Some y) h =
        let first = h.3 keeps in
        sym (shortest_some by (sym (says (n - 1 - h.0) (Some y) f (item_and (p.at h.0) (λ x. Called g f (x, tt) (Some y) f) (down.3 h.0 h.1) first.0)).1) n (omega (arith, down.0, h.1))
        (λ k a b.
        let i : n - 1 - (n - 1 - k) ≡ k = omega arith in
        ap by (sym i) ∙ sym (says (n - 1 - (n - 1 - k)) None f (item_and (p.at (n - 1 - k)) (λ x. Called g f (x, tt) None f) (down.3 (n - 1 - k) (omega (arith, h.1, a, b))) (first.1 (n - 1 - k) (omega (arith, a, b))))).1))

-- the chain over the range itself
module _ {F : Type 0} (g : Mut F (ℕ × Unit {0}) (Option Rest)) (f : F) (by : ℕ → Option Rest)
    (says : (x : ℕ) (r : Option Rest) (q : F) → Called g f (x, tt) r q → (q ≡ f) × (r ≡ by x)) (result : Option Rest) where
  abbrev ten : Range ℕ
  ten = record { start = 0; end = 10 }

  pub longest_is : SomeRun nat_range_steps ten (λ p. Found g f by says p result) → result ≡ longest by
  longest_is run = longest_found g f by says run.0 (subst (λ s. ItemsCountUp run.0 s.start s.end) run.1 (range_runs run.0 run.0.seen)) result run.2

  pub shortest_is : (n : ℕ) {s : Rev (Range ℕ)} → RevKeepsRuns nat_range_steps_back (record { start = 0; end = n }) s
      → SomeRun (rev_steps nat_range_steps_back) s (λ p. Found g f by says p result) → result ≡ shortest_below by n
  shortest_is n kept run =
      let source = kept run.0 run.0.seen run.1 in
      let down = subst (λ s. ItemsCountDown source.0 s.start s.end) source.1 (range_runs_back source.0 source.0.seen) in
      let same = source.2 in
      shortest_found g f by says run.0 n (
        omega (arith, down.0, same.0.0),
        (λ w. omega (arith, down.1 (same.1 ∙ w), same.0.0)),
        (λ k. subst (λ o. IfSome o (λ x. (x + k + 1 ≡ n) × (0 ≤ x))) (same.0.2 k) (down.2 k)),
        (λ k h. ap (option_map (λ y. y)) (sym (same.0.2 k)) ∙ down.3 k (omega (arith, h, same.0.0))),
      )
      result run.2

-- ---- the loop over the ten values

-- what the values from v on give is what all give
pub record Search (by : ℕ → Option Rest) (v : ℕ) : Type 0 where
  pub high : v ≤ 10
  pub same : longest_from by (10 - v) v ≡ longest by

module _ {by : ℕ → Option Rest} {v : ℕ} (inv : Search by v) where
  pub search_past : v ≡ 10 → None ≡ longest by
  unfolding longest_from
  search_past e = ap (λ (k : ℕ). longest_from by (10 - k) k) (sym e) ∙ inv.same

  module _ (on : v ≡ 10 → ⊥) where
    pub search_in : v < 10
    search_in = omega (arith, inv.high)

    step : longest by ≡ or_else (by v) (longest_from by (10 - (v + 1)) (v + 1))
    unfolding longest_from
    step =
        let n : 10 - v ≡ suc (10 - (v + 1)) = omega (arith, search_in) in
        sym inv.same ∙ ap (λ (k : ℕ). longest_from by k v) n

    pub search_turn : by v ≡ None → Search by (v + 1)
    search_turn e = record {
      high = omega (arith, search_in);
      same = sym (step ∙ ap (λ (x : Option Rest). or_else x (longest_from by (10 - (v + 1)) (v + 1))) e);
    }

    pub search_found : {r : Rest} → by v ≡ Some r → Some r ≡ longest by
    search_found e = sym (step ∙ ap (λ (x : Option Rest). or_else x (longest_from by (10 - (v + 1)) (v + 1))) e)

-- ---- whether a value lasts just the ticks

pub exact_none : (d ticks n v : ℕ) → ((k : ℕ) → v ≤ k → k < v + n → just (ticks_of d k) ticks ≡ false) → is_exact d ticks n v ≡ false
unfolding is_exact
exact_none d ticks zero v none = refl
exact_none d ticks (suc n) v none =
    ap (λ (b : Bool). b || is_exact d ticks n (v + 1)) (none v (omega arith) (omega arith))
    ∙ exact_none d ticks n (v + 1) (λ k a b. none k (omega arith) (omega arith))

or_true : (b : Bool) → (b || true) ≡ true
or_true true = refl
or_true false = refl

pub exact_some : (d ticks : ℕ) {i : ℕ} → just (ticks_of d i) ticks ≡ true → (n v : ℕ) → v ≤ i → i < v + n → is_exact d ticks n v ≡ true
unfolding is_exact
exact_some d ticks {i} e zero v low high = absurd (omega arith)
exact_some d ticks {i} e (suc n) v low high = go (i - v) refl (λ later. exact_some d ticks e n (v + 1) later (omega arith))
  where
    go : (k : ℕ) → i - v ≡ k → (v + 1 ≤ i → is_exact d ticks n (v + 1) ≡ true) → (just (ticks_of d v) ticks || is_exact d ticks n (v + 1)) ≡ true
    go zero z later =
        let same : i ≡ v = omega arith in
        ap (λ (b : Bool). b || is_exact d ticks n (v + 1)) (sym (ap (λ (j : ℕ). just (ticks_of d j) ticks) same) ∙ e)
    go (suc k) z later = ap (λ (b : Bool). just (ticks_of d v) ticks || b) (later (omega arith)) ∙ or_true (just (ticks_of d v) ticks)

-- how the loop of `plain` goes
pub ruleset searching = (search_past, search_turn, search_found)
