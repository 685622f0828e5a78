-- Whether a byte is an articulation, by its number.
use mathlib.Core.Path.{◌≡◌, sym, ap, ◌∙◌}
use Prim.Native.Nat.{ℕ, ◌<◌}
use lib.Dec.{ltb}
use borrow.Author.Tests.{lt-ltb}
use Rattle.std.specs.Prelude.{Option, Some, None, is_some, MatchOption}

pub counts : (n : ℕ) (r : Option ℕ) → MatchOption r (n ≡ 5) (λ a. (a ≡ n) × (a < 5)) → is_some r ≡ ltb n 5
counts n None e = rw e
counts n (Some a) q = sym (ap (λ (x : ℕ). ltb x 5) (sym q.0) ∙ lt-ltb a 5 q.1)
