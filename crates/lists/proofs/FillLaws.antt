-- A buffer filled from its start: what is stored so far, and what is left.
use mathlib.Core.Path.{◌≡◌, refl, sym, ap, subst, ◌∙◌}
use Prim.Native.Nat.{ℕ, suc, ◌+◌, ◌≤◌, ◌<◌}
use native.Mathlib.Omega.{arith}
use mathlib.Core.List.{List, [], ◌∷◌, ◌++◌}
use lib.ListN.{length, set, take, drop, length-append}
use lib.Seq.{sets, length-sets, length-take-le, take-add, take_at, drop_at, drop-drop, take_all}
use Rattle.items.specs.Items.{items}
use Rattle.items.specs.declared.Item.{Item}
use Rattle.items.specs.declared.Next.{Next}
use Rattle.items.proofs.RunLaws.{At, no_items}
use Rattle.slices.specs.Store.{stored}
use Rattle.slices.proofs.StoreLaws.{sets_append, stored_sets}

pub record Filling (old all out : List ℕ) (k : ℕ) (rest : List ℕ) : Type 0 where
  pub fits : length all ≤ length old
  pub low : k + length rest ≡ length all
  pub left : drop k all ≡ rest
  pub same : out ≡ sets old 0 (take k all)

pub fill_first : {old all : List ℕ} → length all ≤ length old → Filling old all old 0 all
fill_first h = record { fits = h; low = omega arith; left = refl; same = refl }

-- what is left, said otherwise
pub fill_as : {old all out : List ℕ} {k : ℕ} {rest other : List ℕ} → rest ≡ other → Filling old all out k rest → Filling old all out k other
fill_as {old} {all} {out} {k} e inv = subst (λ (l : List ℕ). Filling old all out k l) e inv

pub fill_length : {old all out : List ℕ} {k : ℕ} {rest : List ℕ} → Filling old all out k rest → length out ≡ length old
fill_length {old} {all} {out} {k} inv = ap length inv.same ∙ length-sets old 0 (take k all)

module _ {old all out : List ℕ} {k : ℕ} (bytes rest : List ℕ) (inv : Filling old all out k (bytes ++ rest)) where
  pub fill_room : k + length bytes ≤ length out
  fill_room = omega (arith, inv.fits, inv.low, length-append bytes rest, fill_length inv)

  pub fill_turn : {out' : List ℕ} {k' : ℕ} → out' ≡ sets out k bytes → k' ≡ k + length bytes → Filling old all out' k' rest
  fill_turn {out'} {k'} e p =
      let n : length (take k all) ≡ k = length-take-le k all (omega (arith, inv.low)) in
      let z : 0 + length (take k all) ≡ k = omega arith in
      let more : take (k + length bytes) all ≡ take k all ++ bytes
      = take-add k (length bytes) all ∙ ap (λ (l : List ℕ). take k all ++ take (length bytes) l) inv.left ∙ ap (λ (l : List ℕ). take k all ++ l) (take_at bytes rest (length bytes) refl) in
      let behind : drop (k + length bytes) all ≡ rest
      = sym (drop-drop (length bytes) k all) ∙ ap (drop (length bytes)) inv.left ∙ drop_at bytes rest (length bytes) refl in
      let stores : sets (sets old 0 (take k all)) k bytes ≡ sets old 0 (take k all ++ bytes)
      = ap (λ (j : ℕ). sets (sets old 0 (take k all)) j bytes) (sym z) ∙ sets_append (take k all) bytes old 0 in
      record {
        fits = inv.fits;
        low = omega (arith, inv.low, length-append bytes rest);
        left = ap (λ (j : ℕ). drop j all) p ∙ behind;
        same = e ∙ ap (λ (l : List ℕ). sets l k bytes) inv.same ∙ stores ∙ ap (sets old 0) (sym more) ∙ ap (λ (j : ℕ). sets old 0 (take j all)) (sym p);
      }

pub fill_past : {old all out : List ℕ} {k : ℕ} → Filling old all out k [] → out ≡ stored old all
fill_past {old} {all} {out} {k} inv =
    inv.same ∙ ap (sets old 0) (take_all k all (omega (arith, inv.low))) ∙ sym (stored_sets old all inv.fits)

-- ---- over the items of a token: `left` says what the items still to come give
pub record Writing (old all out token : List ℕ) (k i : ℕ) (left : List Item → List ℕ) : Type 0 where
  pub high : i ≤ length token
  pub fill : Filling old all out k (left (items (drop i token)))

module _ {old all out token : List ℕ} {k i : ℕ} {left : List Item → List ℕ} (inv : Writing old all out token k i left) where
  at_item : {n : Next} (bytes : List ℕ) (next : List Item → List ℕ) → At token i n → ((is : List Item) → left (n.item ∷ is) ≡ bytes ++ next is)
      → Filling old all out k (bytes ++ next (items (drop n.end token)))
  at_item {n} bytes next at e = fill_as (ap left at.same ∙ e (items (drop n.end token))) inv.fill

  pub write_room : {n : Next} (bytes : List ℕ) (next : List Item → List ℕ) → At token i n → ((is : List Item) → left (n.item ∷ is) ≡ bytes ++ next is)
      → k + length bytes ≤ length out
  write_room bytes next at e = fill_room bytes _ (at_item bytes next at e)

  pub write_turn : {n : Next} {out' : List ℕ} {k' : ℕ} (bytes : List ℕ) (next : List Item → List ℕ) → At token i n
      → ((is : List Item) → left (n.item ∷ is) ≡ bytes ++ next is) → out' ≡ sets out k bytes → k' ≡ k + length bytes
      → Writing old all out' token k' n.end next
  write_turn bytes next at e p q = record { high = at.high; fill = fill_turn bytes _ (at_item bytes next at e) p q }

  -- an item that gives nothing
  pub write_on : {n : Next} (next : List Item → List ℕ) → At token i n → ((is : List Item) → left (n.item ∷ is) ≡ next is)
      → Writing old all out token k n.end next
  write_on next at e = write_turn [] next at e refl (omega arith)

  pub write_left : length token ≤ i → Filling old all out k (left [])
  write_left h = fill_as (ap left (no_items token h)) inv.fill

-- ---- none or one byte is stored
pub none_put : {bytes : List ℕ} (out : List ℕ) (k : ℕ) → bytes ≡ [] → (out ≡ sets out k bytes) × (k ≡ k + length bytes)
none_put out k e = (rw e, rw e (omega arith))

pub one_put : {bytes : List ℕ} {b : ℕ} (out : List ℕ) (k : ℕ) → bytes ≡ b ∷ [] → (set out k b ≡ sets out k bytes) × (k + 1 ≡ k + length bytes)
one_put out k e = (rw e, rw e)

pub one_room : {bytes : List ℕ} {b k n : ℕ} → bytes ≡ b ∷ [] → k + length bytes ≤ n → k < n
one_room e h = let l = ap length e in omega arith

pub three_room : {bytes : List ℕ} {a b c k n : ℕ} → bytes ≡ a ∷ b ∷ c ∷ [] → k + length bytes ≤ n → suc (suc k) < n
three_room e h = let l = ap length e in omega arith
