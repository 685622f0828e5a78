-- The loop over a record's tokens: what it reads ahead, and a turn of it.
use mathlib.Core.Path.{◌≡◌, refl, sym, ap, ap₂, ◌∙◌, subst}
use Prim.Native.Nat.{ℕ, zero, suc, ◌+◌, ◌-◌, ◌*◌, ◌/◌, ◌≤◌, ◌<◌}
use native.Mathlib.Omega.{arith}
use native.Mathlib.Numerals.{add-one}
use mathlib.Core.List.{List, [], ◌∷◌, ◌++◌, head_d, append_assoc, append-nil}
use mathlib.Core.Bool.{Bool, true, false}
use lib.ListN.{length, get_or, take, drop, set, length-set}
use Rattle.slices.specs.Split.{pieces}
use Rattle.slices.proofs.SplitLaws.{all_pieces, no_piece}
use Rattle.lines.proofs.PieceLaws.{Piece}
use Rattle.paths.specs.declared.PathToken.{PathToken}
use Rattle.paths.specs.declared.PathToken.TheVariants.{Split, Join, Exchange, End, Add, Other}
use Rattle.paths.specs.Token.{path_token, is_exchange}
use Rattle.paths.specs.Row.{next_row}
use Rattle.paths.specs.declared.Spine.{Spine}
use Rattle.paths.specs.Walk.{Mode, alone, act, after, emit, starts_exchange, walk}
use Rattle.paths.proofs.WalkLaws.{next_walk}
use Rattle.spines.specs.Cells.{spine_of, row_of}
use Rattle.spines.specs.Tokens.{path_tokens, record_tokens, at_hand, Ahead}
use Rattle.spines.specs.Emit.{mode_of, Emitted}
use Rattle.spines.specs.declared.Emission.{Emission}
use Rattle.spines.specs.declared.Left.{Left}
use Rattle.spines.specs.declared.Left.TheVariants.{Nothing, Joined, Exchanged}
use Rattle.spines.proofs.CellLaws.{cell_fork, row_append, row_drop, row_head}

-- ---- a token read ahead

pub ahead_none : {line : List ℕ} {from n : ℕ} → n ≡ 0 → Ahead line from n Other from
unfolding path_tokens at_hand
ahead_none {line} {from} {n} z = record {
  same = ap (λ (k : ℕ). path_tokens k (pieces 9 from line)) z ∙ sym (ap (λ (k : ℕ). at_hand k Other (pieces 9 from line)) z);
  none = λ _. refl;
}

pub ahead_past : {line : List ℕ} {from n : ℕ} → (n ≡ 0 → ⊥) → length line < from → Ahead line from n Other from
unfolding path_tokens at_hand
ahead_past {line} {from} {n} some h = record { same = rw (no_piece 9 from line h) (go n some); none = λ z. absurd (some z) }
  where
    go : (k : ℕ) → (k ≡ 0 → ⊥) → path_tokens k [] ≡ at_hand k Other []
    go zero s = absurd (s refl)
    go (suc k) s = refl

pub ahead_here : {line : List ℕ} {from n e : ℕ} {t : PathToken} → (n ≡ 0 → ⊥) → Piece 9 line from e → t ≡ path_token (take (e - from) (drop from line)) →
    Ahead line from n t (e + 1)
unfolding path_tokens at_hand
ahead_here {line} {from} {n} {e} {t} some piece is = record { same = rw (piece.here, is) (go n some); none = λ z. absurd (some z) }
  where
    go : (k : ℕ) → (k ≡ 0 → ⊥) → path_tokens k (take (e - from) (drop from line) ∷ pieces 9 (e + 1) line)
        ≡ at_hand k (path_token (take (e - from) (drop from line))) (pieces 9 (e + 1) line)
    go zero s = absurd (s refl)
    go (suc k) s = refl

-- ---- what a token gives

pub emitted_by : {m : Mode} {t : PathToken} {pair : Bool} {b c d : ℕ} {e f : Emission} → e ≡ f → Emitted m t pair b c d f.count f.first f.second f.left →
    Emitted m t pair b c d e.count e.first e.second e.left
emitted_by {m} {t} {pair} {b} {c} {d} e is = subst (λ (x : Emission). Emitted m t pair b c d x.count x.first x.second x.left) (sym e) is

module _ {b c d : ℕ} {pair : Bool} {t : PathToken} where
  pub em_split : (left : Left) → (left ≡ Exchanged → ⊥) → t ≡ Split → Emitted (mode_of left) t pair b c d 2 c (c / 8 * 8 + 4) Nothing
  unfolding row_of
  em_split Nothing n e = rw e (record { few = omega arith; gives = ap (λ (s : Spine). spine_of c ∷ s ∷ []) (cell_fork c); state = refl })
  em_split Joined n e = rw e (record { few = omega arith; gives = ap (λ (s : Spine). spine_of c ∷ s ∷ []) (cell_fork c); state = refl })
  em_split Exchanged n e = absurd (n refl)

  pub em_more : {left : Left} → left ≡ Joined → t ≡ Join → Emitted (mode_of left) t pair b c d 0 0 0 Joined
  unfolding row_of
  em_more h e = rw (h, e) (record { few = omega arith; gives = refl; state = refl })

  pub em_join : (left : Left) → (left ≡ Exchanged → ⊥) → (left ≡ Joined → ⊥) → t ≡ Join → Emitted (mode_of left) t pair b c d 1 c 0 Joined
  unfolding row_of
  em_join Nothing n m e = rw e (record { few = omega arith; gives = refl; state = refl })
  em_join Joined n m e = absurd (m refl)
  em_join Exchanged n m e = absurd (n refl)

  pub em_pair : (left : Left) → (left ≡ Exchanged → ⊥) → pair ≡ true → t ≡ Exchange → Emitted (mode_of left) t pair b c d 1 d 0 Exchanged
  unfolding row_of
  em_pair Nothing n h e = rw (h, e) (record { few = omega arith; gives = refl; state = refl })
  em_pair Joined n h e = rw (h, e) (record { few = omega arith; gives = refl; state = refl })
  em_pair Exchanged n h e = absurd (n refl)

  pub em_lone : (left : Left) → (left ≡ Exchanged → ⊥) → pair ≡ false → t ≡ Exchange → Emitted (mode_of left) t pair b c d 1 c 0 Nothing
  unfolding row_of
  em_lone Nothing n h e = rw (h, e) (record { few = omega arith; gives = refl; state = refl })
  em_lone Joined n h e = rw (h, e) (record { few = omega arith; gives = refl; state = refl })
  em_lone Exchanged n h e = absurd (n refl)

  pub em_end : (left : Left) → (left ≡ Exchanged → ⊥) → t ≡ End → Emitted (mode_of left) t pair b c d 0 0 0 Nothing
  unfolding row_of
  em_end Nothing n e = rw e (record { few = omega arith; gives = refl; state = refl })
  em_end Joined n e = rw e (record { few = omega arith; gives = refl; state = refl })
  em_end Exchanged n e = absurd (n refl)

  pub em_add : (left : Left) → (left ≡ Exchanged → ⊥) → t ≡ Add → Emitted (mode_of left) t pair b c d 2 c 0 Nothing
  unfolding row_of spine_of
  em_add Nothing n e = rw e (record { few = omega arith; gives = refl; state = refl })
  em_add Joined n e = rw e (record { few = omega arith; gives = refl; state = refl })
  em_add Exchanged n e = absurd (n refl)

  pub em_other : (left : Left) → (left ≡ Exchanged → ⊥) → t ≡ Other → Emitted (mode_of left) t pair b c d 1 c 0 Nothing
  unfolding row_of
  em_other Nothing n e = rw e (record { few = omega arith; gives = refl; state = refl })
  em_other Joined n e = rw e (record { few = omega arith; gives = refl; state = refl })
  em_other Exchanged n e = absurd (n refl)

  pub em_right : {left : Left} → left ≡ Exchanged → Emitted (mode_of left) t pair b c d 1 b 0 Nothing
  unfolding row_of
  em_right h = rw h (record { few = omega arith; gives = refl; state = refl })

-- ---- the loop

-- what is written, and what the machine has still to give, make the next row
pub record Loop (line row next : List ℕ) (size : ℕ) (t : PathToken) (from : ℕ) (left : Left) (b n i : ℕ) : Type 0 where
  pub high : i ≤ length row
  pub small : n ≤ 2 * i
  pub room : 2 * length row ≤ size
  pub kept : length next ≡ size
  pub same : row_of (take n next) ++ walk (mode_of left) (spine_of b) (at_hand (length row - i) t (pieces 9 from line)) (row_of (drop i row))
      ≡ next_row (record_tokens (length row) line) (row_of row)

pub loop_first : {line row next : List ℕ} {t : PathToken} {from : ℕ} → 2 * length row ≤ length next → Ahead line 0 (length row) t from →
    Loop line row next (length next) t from Nothing 0 0 0
unfolding row_of
loop_first {line} {row} {next} {t} {from} h a = record {
  high = omega arith;
  small = omega arith;
  room = h;
  kept = refl;
  same = sym (next_walk (spine_of 0) (record_tokens (length row) line) (row_of row) ∙ ap (λ (ts : List PathToken). walk alone (spine_of 0) ts (row_of row)) tokens);
}
  where
    zero_off : (k : ℕ) → k ≡ k - 0
    zero_off k = omega arith

    tokens : record_tokens (length row) line ≡ at_hand (length row - 0) t (pieces 9 from line)
    tokens = ap (path_tokens (length row)) (sym (all_pieces 9 line)) ∙ a.same ∙ ap (λ (k : ℕ). at_hand k t (pieces 9 from line)) (zero_off (length row))

starts : (m : ℕ) (t : PathToken) (ps : List (List ℕ)) → (m ≡ 0 → t ≡ Other) → starts_exchange (at_hand m t ps) ≡ is_exchange t
unfolding at_hand
starts zero t ps none = sym (ap is_exchange (none refl))
starts (suc m) t ps none = refl

-- one token of the machine, with the next one at hand
turn_is : (m : ℕ) (mode : Mode) (l s r : Spine) (t t' : PathToken) (ps ps' : List (List ℕ)) (row : List Spine) →
    path_tokens m ps ≡ at_hand m t' ps' → (m ≡ 0 → t' ≡ Other) → head_d row s ≡ r →
    walk mode l (at_hand (suc m) t ps) (s ∷ row) ≡ emit (act mode t (is_exchange t')) l s r ++ walk (after mode t (is_exchange t')) s (at_hand m t' ps') row
unfolding walk at_hand
turn_is m mode l s r t t' ps ps' row same none h = rw (same, starts m t' ps' none, h)

-- two stores behind the first n, of which k count
two : (out : List ℕ) (x y k : ℕ) → k ≤ 2 → take k (x ∷ y ∷ out) ≡ take k (x ∷ y ∷ [])
two out x y zero l = refl
two out x y (suc zero) l = refl
two out x y (suc (suc zero)) l = refl
two out x y (suc (suc (suc k))) l = absurd (omega arith)

stored : (out : List ℕ) (n x y k : ℕ) → suc n < length out → k ≤ 2 → take (n + k) (set (set out n x) (suc n) y) ≡ take n out ++ take k (x ∷ y ∷ [])
stored [] n x y k h l = absurd (omega arith)
stored (o ∷ []) n x y k h l = absurd (omega arith)
stored (o ∷ p ∷ out) zero x y k h l = let e : 0 + k ≡ k = omega arith in rw e (two out x y k l)
stored (o ∷ p ∷ out) (suc n) x y k h l =
    let e : suc n + k ≡ suc (n + k) = omega arith in
    rw e (ap (λ (r : List ℕ). o ∷ r) (stored (p ∷ out) n x y k (omega arith) l))

module _ {line row next : List ℕ} {size : ℕ} {t : PathToken} {from : ℕ} {left : Left} {b n i : ℕ} (inv : Loop line row next size t from left b n i) where
  pub loop_turn : {t' : PathToken} {from' d k x y : ℕ} {pair : Bool} {left' : Left} → i < length row → Ahead line from (length row - (i + 1)) t' from' →
      pair ≡ is_exchange t' → d ≡ get_or row (i + 1) (get_or row i 0) → Emitted (mode_of left) t pair b (get_or row i 0) d k x y left' →
      Loop line row (set (set next n x) (n + 1) y) size t' from' left' (get_or row i 0) (n + k) (i + 1)
  loop_turn {t'} {from'} {d} {k} {x} {y} {pair} {left'} h a p q e = record {
    high = omega arith;
    small = omega (arith, inv.small, e.few);
    room = inv.room;
    kept = simp length-set inv.kept;
    same = ap (λ (r : List Spine). r ++ rest) written ∙ append_assoc (row_of (take n next)) gift rest ∙ ap (λ (r : List Spine). row_of (take n next) ++ r) (sym turned)
        ∙ inv.same;
  }
    where
      c : ℕ
      c = get_or row i 0

      gift : List Spine
      gift = row_of (take k (x ∷ y ∷ []))

      rest : List Spine
      rest = walk (mode_of left') (spine_of c) (at_hand (length row - (i + 1)) t' (pieces 9 from' line)) (row_of (drop (i + 1) row))

      written : row_of (take (n + k) (set (set next n x) (n + 1) y)) ≡ row_of (take n next) ++ gift
      written =
          let fits : suc n < length next = omega (arith, inv.small, inv.room, inv.kept) in
          ap row_of (rw (add-one n) (stored next n x y k fits e.few)) ∙ row_append (take n next) (take k (x ∷ y ∷ []))

      left_more : length row - i ≡ suc (length row - (i + 1))
      left_more = omega arith

      turned : walk (mode_of left) (spine_of b) (at_hand (length row - i) t (pieces 9 from line)) (row_of (drop i row)) ≡ gift ++ rest
      turned =
          ap₂ (λ (m : ℕ) (r : List Spine). walk (mode_of left) (spine_of b) (at_hand m t (pieces 9 from line)) r) left_more (row_drop row i h)
          ∙ turn_is (length row - (i + 1)) (mode_of left) (spine_of b) (spine_of c) (spine_of d) t t' (pieces 9 from line) (pieces 9 from' line)
          (row_of (drop (i + 1) row)) a.same a.none (row_head row (i + 1) c ∙ ap spine_of (sym q))
          ∙ ap₂ (λ (r : List Spine) (m : Mode). r ++ walk m (spine_of c) (at_hand (length row - (i + 1)) t' (pieces 9 from' line)) (row_of (drop (i + 1) row)))
          (sym (e.gives ∙ ap (λ (x : Bool). emit (act (mode_of left) t x) (spine_of b) (spine_of c) (spine_of d)) p))
          (sym (e.state ∙ ap (after (mode_of left) t) p))

  pub loop_past : length row ≤ i → (row_of (take n next) ≡ next_row (record_tokens (length row) line) (row_of row)) × (n ≤ 2 * length row)
  unfolding walk at_hand
  loop_past h =
      let z : length row - i ≡ 0 = omega arith in (
        sym (append-nil (row_of (take n next)))
            ∙ ap (λ (k : ℕ). row_of (take n next) ++ walk (mode_of left) (spine_of b) (at_hand k t (pieces 9 from line)) (row_of (drop i row))) (sym z) ∙ inv.same,
        omega (arith, inv.small, inv.high),
      )
