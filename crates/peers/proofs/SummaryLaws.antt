-- Each bare column gets from the summary what `uniform_peer_reciprocal` finds.
use mathlib.Core.Path.{◌≡◌, refl, sym, ap, ◌∙◌}
use Prim.Native.Nat.{ℕ, zero, suc, ◌+◌, ◌<◌}
use native.Mathlib.Nat.{not-suc-le-zero, le_of_suc-le-suc}
use native.Mathlib.Omega.{arith}
use mathlib.Core.List.{List, [], ◌∷◌}
use mathlib.Core.Bool.{Bool, true, false, cond, false≢true}
use lib.ListN.{length, get_or}
use borrow.Author.Tests.{eq-eqb, ne_eqb}
use Rattle.slices.specs.Compare.{same_bytes}
use Rattle.peers.specs.Peers.{is_bare, offer_of, peers_from, peer_reciprocal, Tally, none, one, more, broken, begun_by, met, settled, first_lacking, summed, kern_tokens, agreed_digits}
use Rattle.peers.proofs.OfferLaws.{bare_offers}
use Rattle.peers.proofs.TallyLaws.{tallied, tally_broken, tally_uniform}

-- the length of a tally is some bytes
abbrev pub Some : Tally → Type 0
Some none = Unit
Some (one ds) = length ds ≡ 0 → ⊥
Some (more ds) = length ds ≡ 0 → ⊥
Some broken = Unit

begun_some : (ds : List ℕ) → Some (begun_by ds)
begun_some [] = tt
begun_some (x ∷ xs) = λ e. absurd (let z : ◌≡◌ {A = ℕ} 0 1 = cc in omega arith)

met_some : (y : Tally) (t : List ℕ) → Some y → Some (met y t)
met_some none t h = begun_some (offer_of t)
met_some (one ds) t h = go (same_bytes (offer_of t) ds)
  where
    go : (b : Bool) → Some (cond b (more ds) broken)
    go true = h
    go false = tt
met_some (more ds) t h = go (same_bytes (offer_of t) ds)
  where
    go : (b : Bool) → Some (cond b (more ds) broken)
    go true = h
    go false = tt
met_some broken t h = tt

none_other : (ds : List ℕ) → (length ds ≡ 0 → ⊥) → same_bytes [] ds ≡ false
unfolding same_bytes
none_other [] h = absurd (h refl)
none_other (x ∷ xs) h = refl

-- a column that offers nothing breaks an agreement
pub met_none : (y : Tally) (t : List ℕ) → Some y → offer_of t ≡ [] → met y t ≡ broken
met_none none t h e = rw e
met_none (one ds) t h e = rw (e, none_other ds h)
met_none (more ds) t h e = rw (e, none_other ds h)
met_none broken t h e = refl

-- behind the first column that offers nothing, every other counts
sum_lacking : (y : Tally) (ts : List (List ℕ)) → (summed (record { lacking = true; tally = y }) ts).tally ≡ tallied y ts
sum_lacking y [] = refl
sum_lacking y (t ∷ ts) = sum_lacking (met y t) ts

-- the columns from j on are all behind an earlier one
all_peers : (j column : ℕ) (ts : List (List ℕ)) (ks : List Bool) → column < j → peers_from j column ts ks ≡ kern_tokens ts ks
unfolding peers_from kern_tokens
all_peers j column [] ks h = refl
all_peers j column (t ∷ ts) [] h = refl
all_peers j column (t ∷ ts) (true ∷ ks) h = rw (ne_eqb j column (λ e. omega arith)) (ap (λ (l : List (List ℕ)). t ∷ l) (all_peers (suc j) column ts ks (omega arith)))
all_peers j column (t ∷ ts) (false ∷ ks) h = all_peers (suc j) column ts ks (omega arith)

-- a column among them that offers nothing
lacks : (y : Tally) (i : ℕ) (ts : List (List ℕ)) (ks : List Bool) → Some y → i < length ts → get_or ks i false ≡ true → offer_of (get_or ts i []) ≡ []
    → settled (tallied y (kern_tokens ts ks)) ≡ []
unfolding kern_tokens
lacks y i [] ks s h k e = absurd (not-suc-le-zero h)
lacks y i (t ∷ ts) [] s h k e = absurd (false≢true k)
lacks y zero (t ∷ ts) (true ∷ ks) s h k e =
    ap (λ (z : Tally). settled (tallied z (kern_tokens ts ks))) (met_none y t s e) ∙ tally_broken (kern_tokens ts ks)
lacks y zero (t ∷ ts) (false ∷ ks) s h k e = absurd (false≢true k)
lacks y (suc i) (t ∷ ts) (true ∷ ks) s h k e = lacks (met y t) i ts ks (met_some y t s) (le_of_suc-le-suc h) k e
lacks y (suc i) (t ∷ ts) (false ∷ ks) s h k e = lacks y i ts ks s (le_of_suc-le-suc h) k e

gets : (y : Tally) (j i : ℕ) (ts : List (List ℕ)) (ks : List Bool) → Some y → i < length ts → get_or ks i false ≡ true → offer_of (get_or ts i []) ≡ []
    → settled (summed (record { lacking = false; tally = y }) (kern_tokens ts ks)).tally ≡ settled (tallied y (peers_from j (j + i) ts ks))
unfolding kern_tokens peers_from
gets y j i [] ks s h k e = absurd (not-suc-le-zero h)
gets y j i (t ∷ ts) [] s h k e = absurd (false≢true k)
gets y j zero (t ∷ ts) (false ∷ ks) s h k e = absurd (false≢true k)
gets y j zero (t ∷ ts) (true ∷ ks) s h k e =
    rw (eq-eqb j (j + 0) (omega arith), all_peers (suc j) (j + 0) ts ks (omega arith))
    (ap (λ (o : List ℕ). settled (summed (first_lacking o y t) (kern_tokens ts ks)).tally) e ∙ ap settled (sum_lacking y (kern_tokens ts ks)))
gets y j (suc i) (t ∷ ts) (false ∷ ks) s h k e =
    let c : suc j + i ≡ j + suc i = omega arith in
    gets y (suc j) i ts ks s (le_of_suc-le-suc h) k e ∙ ap (λ (n : ℕ). settled (tallied y (peers_from (suc j) n ts ks))) c
gets y j (suc i) (t ∷ ts) (true ∷ ks) s h k e =
    let c : suc j + i ≡ j + suc i = omega arith in
    let l : settled (tallied y (kern_tokens ts ks)) ≡ [] = lacks y i ts ks s (le_of_suc-le-suc h) k e in
    let ih : settled (summed (record { lacking = false; tally = met y t }) (kern_tokens ts ks)).tally ≡ settled (tallied (met y t) (peers_from (suc j) (j + suc i) ts ks))
    = gets (met y t) (suc j) i ts ks (met_some y t s) (le_of_suc-le-suc h) k e ∙ ap (λ (n : ℕ). settled (tallied (met y t) (peers_from (suc j) n ts ks))) c in
    rw (ne_eqb j (j + suc i) (λ z. omega arith)) (go (offer_of t) refl l ih)
  where
    go : (o : List ℕ) → offer_of t ≡ o → settled (tallied y (kern_tokens ts ks)) ≡ []
        → settled (summed (record { lacking = false; tally = met y t }) (kern_tokens ts ks)).tally ≡ settled (tallied (met y t) (peers_from (suc j) (j + suc i) ts ks))
        → settled (summed (first_lacking o y t) (kern_tokens ts ks)).tally ≡ settled (tallied (met y t) (peers_from (suc j) (j + suc i) ts ks))
    go [] q l ih =
        ap settled (sum_lacking y (kern_tokens ts ks)) ∙ l
        ∙ sym (ap (λ (z : Tally). settled (tallied z (peers_from (suc j) (j + suc i) ts ks))) (met_none y t s q) ∙ tally_broken (peers_from (suc j) (j + suc i) ts ks))
    go (d ∷ ds) q l ih = ih

bare_inside : (i : ℕ) (ts : List (List ℕ)) → is_bare (get_or ts i []) ≡ true → i < length ts
unfolding is_bare
bare_inside i [] b = absurd (false≢true b)
bare_inside zero (t ∷ ts) b = omega arith
bare_inside (suc i) (t ∷ ts) b = let h = bare_inside i ts b in omega arith

-- the summary of a record gives each bare kern column what its neighbours offer it
pub bare_column : (ts : List (List ℕ)) (kern : List Bool) (i : ℕ) → get_or kern i false ≡ true → is_bare (get_or ts i []) ≡ true
    → agreed_digits ts kern ≡ peer_reciprocal ts kern i
bare_column ts kern i k b =
    let z : i ≡ 0 + i = omega arith in
    gets none 0 i ts kern tt (bare_inside i ts b) k (bare_offers (get_or ts i []) b)
    ∙ ap (λ (n : ℕ). settled (tallied none (peers_from 0 n ts kern))) (sym z)
    ∙ tally_uniform (peers_from 0 i ts kern)
