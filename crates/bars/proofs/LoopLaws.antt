-- Parts asked or changed, and records laid, one after another.
use Rattle.std.proofs.Common.{◌≡◌, ℕ, ◌+◌, ◌-◌, ◌<◌, Bool, ◌||◌, List, [], ◌∷◌, ◌++◌, map, length, get_or, take, drop, set, refl, sym, ap, ap₂, ◌∙◌, add-one, length-take-le, subst, Bor, arith}
use Rattle.std.specs.List.{list_any}
use Rattle.std.proofs.lemmas.List.{map-append, get_or-drop, get_or_default, get_or-append_right}
use Rattle.std.proofs.lemmas.List.Edits.{map_over_more}
use Rattle.std.proofs.Math.Seq.{take-suc}
use lib.ListN.{length-map}
use Rattle.sheet.specs.Record.{Record}
use Rattle.reading.specs.declared.Part.{Part}
use Rattle.reading.specs.Bars.{any_noted}
use Rattle.state.specs.Lay.{laid, behind}
use Rattle.state.proofs.LayLaws.{laid_append, behind_append}

-- ---- whether any has a note
pub any_noted_lem : (ps : List Part) → list_any (λ (p : Part). p.noted) ps ≡ any_noted ps
unfolding any_noted
any_noted_lem [] = refl
any_noted_lem (p ∷ ps) = ap (λ (b : Bool). p.noted || b) (any_noted_lem ps)

-- ---- the first i parts are changed
abbrev pub Marched : (Part → Part) → List Part → List Part → ℕ → Type 0
Marched f old new i = new ≡ map f (take i old) ++ drop i old

-- part i is as it was
pub marched_at : (f : Part → Part) (old new : List Part) (i : ℕ) (d : Part) → i < length old → Marched f old new i → get_or new i d ≡ get_or old i d
marched_at f old new i d lt m =
    let l : length (map f (take i old)) ≡ i = length-map (take i old) f ∙ length-take-le i old (omega arith) in
    let z : i - i ≡ 0 = omega arith in
    ap (λ (ps : List Part). get_or ps i d) m
    ∙ get_or-append_right (map f (take i old)) (drop i old) i i d l (omega arith)
    ∙ ap (λ (k : ℕ). get_or (drop i old) k d) z
    ∙ get_or-drop i old 0 d
    ∙ ap (λ (k : ℕ). get_or old k d) (omega arith)

pub marched_turn : (f : Part → Part) (old new : List Part) (i : ℕ) (d : Part) {q : Part} → i < length old → length new ≡ length old → Marched f old new i
    → q ≡ f (get_or new i d) → Marched f old (set new i q) (i + 1)
marched_turn f old new i d {q} lt long m e =
    let x = get_or new i d in
    ap (set new i) e ∙ map_over_more f old new i x lt m (get_or_default new i d x (omega arith))

-- ---- records stand in a buffer from a place on, and end at another
pub record Laid (rs : List Record) (old new : List ℕ) (at k : ℕ) : Type 0 where
  pub out : new ≡ laid old at rs
  pub end : k ≡ behind at rs

pub laid_none : (out : List ℕ) (at : ℕ) → Laid [] out out at at
unfolding laid behind
laid_none out at = record { out = refl; end = refl }

pub laid_more : (rs : List Record) (r : Record) {old mid new : List ℕ} {at j k : ℕ} → Laid rs old mid at j → (new ≡ laid mid j (r ∷ [])) × (k ≡ behind j (r ∷ []))
    → Laid (rs ++ r ∷ []) old new at k
laid_more rs r {old} {mid} {new} {at} {j} {k} l more = record {
  out = more.0 ∙ ap₂ (λ (o : List ℕ) (i : ℕ). laid o i (r ∷ [])) l.out l.end ∙ sym (laid_append rs (r ∷ []) old at);
  end = more.1 ∙ ap (λ (i : ℕ). behind i (r ∷ [])) l.end ∙ sym (behind_append rs (r ∷ []) at);
}

-- a record of each part, as they are changed
pub close_turn : (f : Part → Part) (g : Part → Record) (parts new : List Part) (i : ℕ) (d : Part) {old mid out : List ℕ} {at j k : ℕ} → i < length parts
    → Marched f parts new i → Laid (map g (take i parts)) old mid at j → (out ≡ laid mid j (g (get_or new i d) ∷ [])) × (k ≡ behind j (g (get_or new i d) ∷ []))
    → Laid (map g (take (i + 1) parts)) old out at k
close_turn f g parts new i d {old} {mid} {out} {at} {j} {k} lt m l more =
    let x = get_or parts i d in
    let all : map g (take (i + 1) parts) ≡ map g (take i parts) ++ g (get_or new i d) ∷ []
    = ap (λ (n : ℕ). map g (take n parts)) (add-one i)
    ∙ ap (map g) (take-suc parts i d lt)
    ∙ map-append g (take i parts) (x ∷ [])
    ∙ ap (λ (p : Part). map g (take i parts) ++ g p ∷ []) (sym (marched_at f parts new i d lt m)) in
    subst (λ (rs : List Record). Laid rs old out at k) (sym all) (laid_more (map g (take i parts)) (g (get_or new i d)) l more)

-- a record of each part that a loop was given
abbrev pub given : List (Bor Part) → List Part
given ps = map (λ (p : Bor Part). p.now) ps

pub given_turn : (g : Part → Record) (ps : List (Bor Part)) (p : Bor Part) {r : Record} {old mid out : List ℕ} {at j k : ℕ} → r ≡ g p.now
    → Laid (map g (given ps)) old mid at j → (out ≡ laid mid j (r ∷ [])) × (k ≡ behind j (r ∷ [])) → Laid (map g (given (ps ++ p ∷ []))) old out at k
given_turn g ps p {r} {old} {mid} {out} {at} {j} {k} e l more =
    let all : map g (given (ps ++ p ∷ [])) ≡ map g (given ps) ++ r ∷ []
    = ap (map g) (map-append (λ (q : Bor Part). q.now) ps (p ∷ []))
    ∙ map-append g (given ps) (p.now ∷ [])
    ∙ ap (λ (x : Record). map g (given ps) ++ x ∷ []) (sym e) in
    subst (λ (rs : List Record). Laid rs old out at k) (sym all) (laid_more (map g (given ps)) r l more)
