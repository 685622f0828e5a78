-- A neighbour offers the length that another offers: it begins with it, something follows that is no digit, and nothing there is forbidden.
use mathlib.Core.Path.{◌≡◌, refl, sym, ap, ◌∙◌}
use Prim.Native.Nat.{ℕ, ◌+◌, ◌<◌}
use native.Mathlib.Omega.{arith}
use mathlib.Core.List.{List, [], ◌∷◌}
use mathlib.Core.Bool.{Bool, true, false, cond, not, ◌&&◌, false≢true}
use lib.Dec.{eqb}
use lib.ListN.{length, take, drop}
use lib.Pointwise.{pointwise}
use borrow.Author.Tests.{eq-eqb, ne_eqb}
use Rattle.std.specs.Prelude.{Option, Some, None, slice_get}
use Rattle.slices.specs.Compare.{begins_with, same_bytes}
use Rattle.slices.proofs.CompareLaws.{same_is}
use Rattle.duration.specs.Ratio.{spelled_value}
use Rattle.duration.specs.declared.Value.{Value}
use Rattle.items.specs.Items.{is_digit, is_number}
use Rattle.peers.specs.Peers.{leading, forbids, if_value, offer_of, Offered}
use Rattle.peers.proofs.LeadingLaws.{leading_begins, leading_stop, leading_is}

-- ---- what is known of a token that offers a length
record Facts (t ds : List ℕ) : Type 0 where
  free : forbids (drop (length ds) t) ≡ false
  leads : leading t ≡ ds
  more : length ds ≡ length t → ⊥
  valued : if_value (spelled_value ds) ds ≡ ds

facts : (t ds : List ℕ) → ds ≡ offer_of t → (length ds ≡ 0 → ⊥) → Facts t ds
unfolding offer_of
facts t ds e some = go (forbids (drop (length (leading t)) t)) (eqb (length (leading t)) (length t)) (spelled_value (leading t)) refl refl refl e
  where
    valued : (v : Option Value) → spelled_value (leading t) ≡ v → forbids (drop (length (leading t)) t) ≡ false → eqb (length (leading t)) (length t) ≡ false
        → ds ≡ leading t → ((l : List ℕ) → if_value v l ≡ l) → Facts t ds
    valued v w p q r k = record {
      free = ap (λ (l : List ℕ). forbids (drop (length l) t)) r ∙ p;
      leads = sym r;
      more = λ z. let x : eqb (length (leading t)) (length t) ≡ true = eq-eqb _ _ (ap length (sym r) ∙ z) in false≢true (sym q ∙ x);
      valued = ap (λ (l : List ℕ). if_value (spelled_value l) ds) r ∙ ap (λ (u : Option Value). if_value u ds) w ∙ k ds;
    }

    go : (a b : Bool) (v : Option Value) → forbids (drop (length (leading t)) t) ≡ a → eqb (length (leading t)) (length t) ≡ b → spelled_value (leading t) ≡ v
        → ds ≡ cond a [] (cond b [] (if_value v (leading t))) → Facts t ds
    go true b v p q w r = absurd (some (ap length r))
    go false true v p q w r = absurd (some (ap length r))
    go false false None p q w r = absurd (some (ap length r))
    go false false (Some v) p q w r = valued (Some v) w p q r (λ l. refl)

same_self : (ds : List ℕ) → same_bytes ds ds ≡ true
unfolding same_bytes
same_self [] = refl
same_self (x ∷ xs) = rw (eq-eqb x x refl, same_self xs)

refuse : (b : Bool) → (b ≡ true → ⊥) → false ≡ b
refuse true h = absurd (h refl)
refuse false h = refl

-- ---- the ways out of `agrees`
stripped : (p s : List ℕ) → pointwise eqb (take (length p) s) p ≡ begins_with p s
unfolding begins_with
stripped [] s = refl
stripped (x ∷ p) [] = refl
stripped (x ∷ p) (y ∷ s) = ap (λ (b : Bool). eqb y x && b) (stripped p s)

module _ (t : List ℕ) {ds : List ℕ} (o : Offered ds) where
  of : same_bytes (offer_of t) ds ≡ true → Facts t ds
  of e = facts t ds (same_is (offer_of t) ds e) o.some

  pub agree_other : pointwise eqb (take (length ds) t) ds ≡ false → false ≡ same_bytes (offer_of t) ds
  agree_other p =
      refuse (same_bytes (offer_of t) ds)
      (λ e. let z : begins_with ds t ≡ true = rw ((of e).leads) at (leading_begins t) in
      false≢true (sym p ∙ stripped ds t ∙ z))

  pub agree_short : (rest : List ℕ) → length rest + length ds ≡ length t → None ≡ slice_get rest 0 → false ≡ same_bytes (offer_of t) ds
  agree_short rest n q = refuse (same_bytes (offer_of t) ds) (λ e. (of e).more (none rest n q))
    where
      none : (rest : List ℕ) → length rest + length ds ≡ length t → None ≡ slice_get rest 0 → length ds ≡ length t
      none [] n q = omega arith
      none (x ∷ rest) n q = cc

  module _ (b : pointwise eqb (take (length ds) t) ds ≡ true) where
    agree_by : (d f : Bool) → is_number (drop (length ds) t) ≡ d → forbids (drop (length ds) t) ≡ f → length ds < length t → (not d && not f) ≡ same_bytes (offer_of t) ds
    unfolding offer_of
    agree_by true f p q h =
        refuse (same_bytes (offer_of t) ds)
        (λ e. let z : is_number (drop (length ds) t) ≡ false = rw ((of e).leads) at (leading_stop t) in
        false≢true (sym z ∙ p))
    agree_by false true p q h = refuse (same_bytes (offer_of t) ds) (λ e. false≢true (sym ((of e).free) ∙ q))
    agree_by false false p q h =
        let l : leading t ≡ ds = leading_is ds t o.some o.digits (sym (stripped ds t) ∙ b) p q in
        let m : eqb (length ds) (length t) ≡ false = ne_eqb (length ds) (length t) (λ z. omega arith) in
        sym (rw (l, q, m, o.valued) (same_self ds))

    pub agree_last : (rest : List ℕ) {next : ℕ} → rest ≡ drop (length ds) t → length rest + length ds ≡ length t → Some next ≡ slice_get rest 0
        → (not (is_digit next) && not (forbids rest)) ≡ same_bytes (offer_of t) ds
    agree_last [] {next} p n q = cc
    agree_last (x ∷ rest) {next} p n q =
        let same : next ≡ x = cc in
        rw same (rw (← p) at (agree_by (is_number (drop (length ds) t)) (forbids (drop (length ds) t)) refl refl (omega arith)))
