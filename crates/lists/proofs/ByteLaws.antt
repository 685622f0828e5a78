-- The articulations of a token, byte by byte: no byte of a longer run and no blank is one.
use mathlib.Core.Path.{◌≡◌, refl, sym, ap, ◌∙◌}
use Prim.Native.Nat.{ℕ, suc, ◌+◌, ◌-◌, ◌≤◌, ◌<◌}
use native.Mathlib.Omega.{arith}
use native.Mathlib.Numerals.{add-one}
use mathlib.Core.List.{List, [], ◌∷◌, ◌++◌}
use mathlib.Core.Bool.{Bool, true, false, cond, ◌&&◌}
use lib.Dec.{eqb, ltb, eqb→eq}
use lib.ListN.{length, drop, get_or, drop_of_length-le}
use lib.Seq.{sets, drop-cons}
use borrow.Author.Tests.{lt-ltb, le-ltb, eqb-true}
use Rattle.slices.specs.Finite.{below}
use Rattle.slices.specs.Store.{stored}
use Rattle.pitch.specs.Pitch.{within}
use Rattle.pitch.proofs.Letters.{within_low, within_high, seven}
use Rattle.duration.specs.Ratio.{is_ratio, spelled_value}
use Rattle.items.specs.Items.{is_digit, is_letter, joins, into, runs, is_number, is_percent, pieces, length_item, item_of, items_of}
use Rattle.items.specs.declared.Item.{Item}
use Rattle.items.specs.declared.Item.TheVariants.{Digits, Ratio, Letters, Blank, Mark}
use Rattle.items.proofs.PieceLaws.{percent_byte, number_append, three}
use Rattle.token.specs.Token.{marks, articulation, articulations_in, articulations_of}
use Rattle.lists.specs.Lists.{articulation_bytes}
use Rattle.lists.proofs.FillLaws.{Filling, fill_first, fill_as, fill_room, fill_turn, fill_past}

-- ---- bytes that are no articulation
pass : (b : ℕ) (l : List ℕ) → articulation b ≡ 5 → articulations_in (b ∷ l) ≡ articulations_in l
unfolding articulations_in
pass b l e = rw e

digit_none : (b : ℕ) → is_digit b ≡ true → articulation b ≡ 5
unfolding articulation
digit_none b e =
    let l : 48 ≤ b = within_low 48 57 b e in
    let h : b ≤ 57 = within_high 48 57 b e in
    let back : 48 + (b - 48) ≡ b = omega arith in
    rw back at (eqb→eq (articulation (48 + (b - 48))) 5 (below (λ k. eqb (articulation (48 + k)) 5) 10 tt (b - 48) (omega arith)))

letter_none : (b : ℕ) → is_letter b ≡ true → articulation b ≡ 5
unfolding is_letter articulation
letter_none b e = go (within 97 103 b) refl
  where
    go : (t : Bool) → within 97 103 b ≡ t → articulation b ≡ 5
    go true p = eqb→eq _ _ (seven (λ b. eqb (articulation b) 5) 97 tt b p)
    go false p = eqb→eq _ _ (seven (λ b. eqb (articulation b) 5) 65 tt b (rw p at e))

blank_none : (b : ℕ) → eqb b 32 ≡ true → articulation b ≡ 5
unfolding articulation
blank_none b e = ap articulation (eqb-true b 32 e)

-- ---- a length gives nothing
length_gives : (r : List ℕ) (is : List Item) → articulations_of (length_item r ∷ is) ≡ articulations_of is
unfolding marks
length_gives r is = go (is_ratio r)
  where
    go : (t : Bool) → articulations_of (cond t (Ratio (spelled_value r)) (Digits (spelled_value r)) ∷ is) ≡ articulations_of is
    go true = refl
    go false = refl

-- ---- a run gives what its first byte gives
run_gives : (b : ℕ) (r : List ℕ) (is : List Item) → articulations_of (item_of (b ∷ r) ∷ is) ≡ articulations_in (b ∷ marks is)
unfolding item_of marks
run_gives b r is = go (is_digit b) refl
  where
    other : (t : Bool) → eqb b 32 ≡ t → is_letter b ≡ false → is_digit b ≡ false → articulations_of (item_of (b ∷ r) ∷ is) ≡ articulations_in (b ∷ marks is)
    other true p l d = rw (d, l, p) (sym (pass b (marks is) (blank_none b p)))
    other false p l d = rw (d, l, p)

    letter : (t : Bool) → is_letter b ≡ t → is_digit b ≡ false → articulations_of (item_of (b ∷ r) ∷ is) ≡ articulations_in (b ∷ marks is)
    letter true p d = rw (d, p) (sym (pass b (marks is) (letter_none b p)))
    letter false p d = other (eqb b 32) refl p d

    go : (t : Bool) → is_digit b ≡ t → articulations_of (item_of (b ∷ r) ∷ is) ≡ articulations_in (b ∷ marks is)
    go true p = rw p (length_gives (b ∷ r) is ∙ sym (pass b (marks is) (digit_none b p)))
    go false p = letter (is_letter b) refl p

-- a byte that joins one before it gives nothing
joined : (a b : ℕ) → joins a b ≡ true → articulation b ≡ 5
unfolding joins
joined a b e = go (is_digit a) (is_letter a) refl refl
  where
    go : (d l : Bool) → is_digit a ≡ d → is_letter a ≡ l → articulation b ≡ 5
    go true l p q = digit_none b (rw p at e)
    go false true p q = let same : b ≡ a = eqb-true b a (rw (p, q) at e) in letter_none b (rw same q)
    go false false p q = let z : false ≡ true = rw (p, q) at e in cc

behind : (b : ℕ) (l m : List ℕ) → articulations_in l ≡ articulations_in m → articulations_in (b ∷ l) ≡ articulations_in (b ∷ m)
unfolding articulations_in
behind b l m e = rw e

into_gives : (b : ℕ) (rs : List (List ℕ)) → articulations_of (items_of (into b rs)) ≡ articulations_in (b ∷ marks (items_of rs))
unfolding into items_of item_of marks
into_gives b [] = run_gives b [] []
into_gives b ([] ∷ rs) = run_gives b [] (items_of rs)
into_gives b ((c ∷ r) ∷ rs) = go (joins b c) refl
  where
    go : (t : Bool) → joins b c ≡ t → articulations_of (items_of (cond t ((b ∷ c ∷ r) ∷ rs) ((b ∷ []) ∷ (c ∷ r) ∷ rs))) ≡ articulations_in (b ∷ marks (items_of ((c ∷ r) ∷ rs)))
    go true p = run_gives b (c ∷ r) (items_of rs) ∙ behind b _ _ (sym (run_gives c r (items_of rs) ∙ pass c (marks (items_of rs)) (joined b c p)))
    go false p = run_gives b [] (items_of ((c ∷ r) ∷ rs))

runs_give : (s : List ℕ) → articulations_of (items_of (runs s)) ≡ articulations_in s
unfolding runs items_of marks
runs_give [] = refl
runs_give (b ∷ s) = into_gives b (runs s) ∙ behind b _ _ (runs_give s)

-- ---- the pieces give what the runs give: of a ratio's three, nothing
number_gives : (r : List ℕ) (is : List Item) → is_number r ≡ true → articulations_of (item_of r ∷ is) ≡ articulations_of is
unfolding item_of within
number_gives [] is e = cc
number_gives (b ∷ r) is e = rw e (length_gives (b ∷ r) is)

percent_gives : (r : List ℕ) (is : List Item) → is_percent r ≡ true → articulations_of (item_of r ∷ is) ≡ articulations_of is
unfolding articulation articulations_in
percent_gives r is e = rw (percent_byte r e) (run_gives 37 [] is)

item_gives : (i : Item) (is js : List Item) → articulations_of is ≡ articulations_of js → articulations_of (i ∷ is) ≡ articulations_of (i ∷ js)
unfolding marks
item_gives (Digits v) is js e = e
item_gives (Ratio v) is js e = e
item_gives (Letters c n) is js e = e
item_gives Blank is js e = e
item_gives (Mark b) is js e = behind b (marks is) (marks js) e

pieces_give : (rs : List (List ℕ)) → articulations_of (items_of (pieces rs)) ≡ articulations_of (items_of rs)
unfolding items_of pieces
pieces_give [] = refl
pieces_give (r ∷ []) = refl
pieces_give (r ∷ p ∷ []) = refl
pieces_give (r ∷ p ∷ q ∷ rs) = go (is_number r && is_percent p && is_number q) refl (pieces_give rs) (pieces_give (p ∷ q ∷ rs))
  where
    go : (t : Bool) → (is_number r && is_percent p && is_number q) ≡ t → articulations_of (items_of (pieces rs)) ≡ articulations_of (items_of rs)
        → articulations_of (items_of (pieces (p ∷ q ∷ rs))) ≡ articulations_of (items_of (p ∷ q ∷ rs))
        → articulations_of (items_of (cond t ((r ++ (p ++ q)) ∷ pieces rs) (r ∷ pieces (p ∷ q ∷ rs)))) ≡ articulations_of (items_of (r ∷ p ∷ q ∷ rs))
    go true e h k =
        let t = three r p q e in
        number_gives (r ++ (p ++ q)) (items_of (pieces rs)) (number_append r (p ++ q) t.first) ∙ h
        ∙ sym (number_gives r (items_of (p ∷ q ∷ rs)) t.first ∙ percent_gives p (items_of (q ∷ rs)) t.percent ∙ number_gives q (items_of rs) t.second)
    go false e h k = item_gives (item_of r) _ _ k

by_bytes : (s : List ℕ) → articulation_bytes s ≡ articulations_in s
by_bytes s = pieces_give (runs s) ∙ runs_give s

-- ---- the loop: what the bytes still to come give
pub record Marking (old out token : List ℕ) (k i : ℕ) : Type 0 where
  pub high : i ≤ length token
  pub fill : Filling old (articulation_bytes token) out k (articulations_in (drop i token))

pub mark_first : {old : List ℕ} (token : List ℕ) → length (articulation_bytes token) ≤ length old → Marking old old token 0 0
mark_first token h = record { high = omega arith; fill = fill_as (by_bytes token) (fill_first h) }

one_more : (b : ℕ) (l : List ℕ) → articulations_in (b ∷ l) ≡ articulations_in (b ∷ []) ++ articulations_in l
unfolding articulations_in
one_more b l = go (ltb (articulation b) 5)
  where
    go : (t : Bool) → cond t (articulation b ∷ articulations_in l) (articulations_in l) ≡ cond t (articulation b ∷ []) [] ++ articulations_in l
    go true = refl
    go false = refl

module _ {old out token : List ℕ} {k i : ℕ} (inv : Marking old out token k i) where
  at_byte : i < length token
      → Filling old (articulation_bytes token) out k (articulations_in (get_or token i 0 ∷ []) ++ articulations_in (drop (i + 1) token))
  at_byte h = fill_as (ap articulations_in (drop-cons token i 0 h) ∙ one_more (get_or token i 0) (drop (suc i) token) ∙ rw (add-one i)) inv.fill

  pub mark_room : i < length token → k + length (articulations_in (get_or token i 0 ∷ [])) ≤ length out
  mark_room h = fill_room (articulations_in (get_or token i 0 ∷ [])) (articulations_in (drop (i + 1) token)) (at_byte h)

  pub mark_turn : {out' : List ℕ} {k' : ℕ} → i < length token → out' ≡ sets out k (articulations_in (get_or token i 0 ∷ []))
      → k' ≡ k + length (articulations_in (get_or token i 0 ∷ [])) → Marking old out' token k' (i + 1)
  mark_turn h p q = record { high = omega arith; fill = fill_turn (articulations_in (get_or token i 0 ∷ [])) (articulations_in (drop (i + 1) token)) (at_byte h) p q }

  pub mark_past : length token ≤ i → out ≡ stored old (articulation_bytes token)
  unfolding articulations_in
  mark_past h = fill_past (fill_as (ap articulations_in (drop_of_length-le token h)) inv.fill)

-- ---- one byte
pub is_articulation : {a : ℕ} (b : ℕ) → a ≡ articulation b → a < 5 → articulations_in (b ∷ []) ≡ a ∷ []
unfolding articulations_in
is_articulation {a} b p h = rw (← p, lt-ltb a 5 h)

pub no_articulation : {a : ℕ} (b : ℕ) → a ≡ articulation b → 5 ≤ a → articulations_in (b ∷ []) ≡ []
unfolding articulations_in
no_articulation {a} b p h = rw (← p, le-ltb a 5 h)
