-- Neighbour by neighbour, the length that all offer.
use mathlib.Core.Path.{◌≡◌, refl, sym, ◌∙◌}
use Prim.Native.Nat.{ℕ}
use mathlib.Core.List.{List, [], ◌∷◌}
use mathlib.Core.Bool.{Bool, true, false, cond, ◌&&◌}
use Rattle.slices.specs.Compare.{same_bytes}
use Rattle.peers.specs.Peers.{offer_of, all_offer, uniform, Tally, none, more, broken, begun_by, met, settled}

abbrev pub tallied : Tally → List (List ℕ) → Tally
tallied y [] = y
tallied y (t ∷ ts) = tallied (met y t) ts

pub tally_broken : (ts : List (List ℕ)) → settled (tallied broken ts) ≡ []
tally_broken [] = refl
tally_broken (t ∷ ts) = tally_broken ts

tally_more : (ds : List ℕ) (ts : List (List ℕ)) → settled (tallied (more ds) ts) ≡ cond (all_offer ds ts) ds []
unfolding all_offer
tally_more ds [] = refl
tally_more ds (t ∷ ts) = go (same_bytes (offer_of t) ds) (tally_more ds ts)
  where
    go : (b : Bool) → settled (tallied (more ds) ts) ≡ cond (all_offer ds ts) ds []
        → settled (tallied (cond b (more ds) broken) ts) ≡ cond (b && all_offer ds ts) ds []
    go true ih = ih
    go false ih = tally_broken ts

either : (b : Bool) → ◌≡◌ {A = List ℕ} (cond b [] []) []
either true = refl
either false = refl

first_offer : (ds : List ℕ) → settled (begun_by ds) ≡ []
first_offer [] = refl
first_offer (x ∷ xs) = refl

two_offers : (ds : List ℕ) (u : List ℕ) (ts : List (List ℕ)) → settled (tallied (met (begun_by ds) u) ts) ≡ cond (all_offer ds (u ∷ ts)) ds []
unfolding all_offer
two_offers [] u ts = tally_broken ts ∙ sym (either (same_bytes (offer_of u) [] && all_offer [] ts))
two_offers (x ∷ xs) u ts = go (same_bytes (offer_of u) (x ∷ xs))
  where
    go : (b : Bool) → settled (tallied (cond b (more (x ∷ xs)) broken) ts) ≡ cond (b && all_offer (x ∷ xs) ts) (x ∷ xs) []
    go true = tally_more (x ∷ xs) ts
    go false = tally_broken ts

pub tally_uniform : (ts : List (List ℕ)) → settled (tallied none ts) ≡ uniform ts
unfolding uniform
tally_uniform [] = refl
tally_uniform (t ∷ []) = first_offer (offer_of t)
tally_uniform (t ∷ u ∷ ts) = two_offers (offer_of t) u ts
