-- Reference records, and the header's notices, as they land in the buffer.
use Rattle.std.specs.Prelude.{Ok}
use mathlib.Core.Path.{◌≡◌, refl, sym, ap, ap₂, ◌∙◌, subst}
use Prim.Native.Nat.{ℕ, ◌+◌, ◌≤◌, ◌<◌}
use native.Mathlib.Numerals.{add-one}
use native.Mathlib.Omega.{arith}
use mathlib.Core.Bool.{Bool, true, false, cond}
use mathlib.Core.List.{List, [], ◌∷◌}
use lib.Dec.{eqb}
use lib.ListN.{length, drop, get_or, drop_of_length-le}
use lib.Seq.{drop-cons}
use Rattle.slices.specs.Split.{join, split}
use Rattle.slices.proofs.SplitLaws.{first_piece}
use Rattle.state.proofs.CountLaws.{same, same_same}
use Rattle.state.specs.Counts.{Same}
use Rattle.lines.specs.Tokens.{tokens_of, is_kern}
use Rattle.sheet.specs.Record.{span_of}
use Rattle.reading.specs.State.{State, Result, goes}
use Rattle.reading.specs.declared.Part.{Part}
use Rattle.reading.specs.Notices.{Token, placed, quiet, after, notify}
use Rattle.reading.specs.Header.{notice_others}
use Rattle.state.specs.Lay.{laid, behind}
use Rattle.state.specs.View.{state_of, going, landed, told}
use Rattle.state.specs.declared.Tally.{Tally}
use Rattle.state.proofs.LayLaws.{laid_append, behind_append}
use Rattle.writing.specs.Kept.{notice_of, kept_records, after_kept}
use Rattle.writing.proofs.KeptLaws.{kept_same, notify_told}
use Rattle.header.specs.Columns.{notice_other}

-- ---- a notice for a column
pub other_kern : (token : List ℕ) (k j at : ℕ) (t : Tally) (out : List ℕ) → is_kern token ≡ true
    → Same t t × ((cells : List ℕ) (parts : List Part) → told (Ok t) cells parts out ≡ landed (goes (notice_other k j at token (state_of cells parts t))) out t.at)
unfolding notice_other laid behind
other_kern token k j at t out e = (same t, λ cells parts. rw e refl)

pub other_told : (token : List ℕ) (k j at : ℕ) (t r : Tally) (out last : List ℕ) → is_kern token ≡ false
    → (last ≡ laid out t.at (kept_records t (notice_of 2 k j (span_of at (length token))) [])) × (r ≡ after_kept t (notice_of 2 k j (span_of at (length token))) [])
    → Same t r × ((cells : List ℕ) (parts : List Part) → told (Ok r) cells parts last ≡ landed (goes (notice_other k j at token (state_of cells parts t))) out t.at)
unfolding notice_other
other_told token k j at t r out last e w =
    let n = notice_of 2 k j (span_of at (length token)) in (
      subst (Same t) (sym w.1) (kept_same t n []),
      λ cells parts.
          ap₂ (λ (x : Tally) (y : List ℕ). told (Ok x) cells parts y) w.1 w.0
          ∙ notify_told cells parts t 2 k j (span_of at (length token)) out
          ∙ sym (ap (λ (b : Bool). landed (goes (cond b (quiet (state_of cells parts t)) (notify 2 k j (span_of at (length token)) (state_of cells parts t)))) out t.at) e),
    )

-- ---- the notices, column by column
others_here : (k j at : ℕ) (token : List ℕ) (ts : List (List ℕ)) (st : State)
    → notice_others k j (placed at (token ∷ ts)) st ≡ after (notice_other k j at token st) (notice_others k (j + 1) (placed (at + length token + 1) ts))
unfolding notice_others notice_other placed
others_here k j at token ts st =
    ap (λ (i : ℕ). cond (is_kern token) (notice_others k i rest st) (after (notify 2 k j (span_of at (length token)) st) (notice_others k i rest))) (sym (add-one j))
    ∙ go (is_kern token)
  where
    rest : List Token
    rest = placed (at + length token + 1) ts

    go : (b : Bool)
        → cond b (notice_others k (j + 1) rest st) (after (notify 2 k j (span_of at (length token)) st) (notice_others k (j + 1) rest))
        ≡ after (cond b (quiet st) (notify 2 k j (span_of at (length token)) st)) (notice_others k (j + 1) rest)
    go true = refl
    go false = refl

landed_after : (r : Result) (f : State → Result) (out : List ℕ) (at : ℕ)
    → landed (goes (after r f)) out at ≡ landed (goes (f r.state)) (laid out at r.records) (behind at r.records)
landed_after r f out at =
    ap₂ (going (f r.state).state) (behind_append r.records (f r.state).records at) (laid_append r.records (f r.state).records out at)

-- what is told of a state goes on as what is landed
carry : (t : Tally) (cells : List ℕ) (parts : List Part) (last out : List ℕ) (at : ℕ) (r : Result) (f : State → Result) → told (Ok t) cells parts last ≡ landed (goes r) out at
    → landed (goes (f (state_of cells parts t))) last t.at ≡ landed (goes (after r f)) out at
carry t cells parts last out at r f e =
    let s : state_of cells parts t ≡ r.state = cc in
    let p : t.at ≡ behind at r.records = cc in
    let o : last ≡ laid out at r.records = cc in
    ap (λ (x : State). landed (goes (f x)) last t.at) s
    ∙ ap₂ (λ (x : List ℕ) (y : ℕ). landed (goes (f r.state)) x y) o p
    ∙ sym (landed_after r f out at)

-- how far tokens reach, each with the byte behind it
abbrev pub width : List (List ℕ) → ℕ
width [] = 0
width (t ∷ ts) = length t + 1 + width ts

width_join : (b : Bool) (x : ℕ) (p : List ℕ) (ps : List (List ℕ)) → width (join b x (p ∷ ps)) ≡ width (p ∷ ps) + 1
unfolding join
width_join true x p ps = omega arith
width_join false x p ps = omega arith

pub width_line : (b : ℕ) (s : List ℕ) → width (split b s) ≡ length s + 1
unfolding split
width_line b [] = refl
width_line b (x ∷ s) =
    let e = first_piece b s in
    ap (λ (ps : List (List ℕ)). width (join (eqb x b) x ps)) e
    ∙ width_join (eqb x b) x _ _
    ∙ ap (λ (ps : List (List ℕ)). width ps + 1) (sym e)
    ∙ omega (arith, width_line b s)

-- the loop: what the tokens from n on come to from here is what all come to from the start
pub record Noticing (s : List ℕ) (k offset : ℕ) (t₀ : Tally) (out₀ : List ℕ) (t : Tally) (out : List ℕ) (at n : ℕ) : Type 0 where
  pub kept : length out ≡ length out₀
  pub same : Same t₀ t
  pub place : at + width (drop n (tokens_of s)) ≡ offset + length s + 1
  pub left : (cells : List ℕ) (parts : List Part)
      → landed (goes (notice_others k (n + 1) (placed at (drop n (tokens_of s))) (state_of cells parts t))) out t.at
      ≡ landed (goes (notice_others k 1 (placed offset (tokens_of s)) (state_of cells parts t₀))) out₀ t₀.at

pub noticing_first : (s : List ℕ) (k offset : ℕ) (t : Tally) (out : List ℕ) → Noticing s k offset t out t out offset 0
noticing_first s k offset t out = record {
  kept = refl;
  same = same t;
  place = omega (arith, width_line 9 s);
  left = λ cells parts. refl;
}

module _ {s : List ℕ} {k offset : ℕ} {t₀ t : Tally} {out₀ out : List ℕ} {at n : ℕ} (inv : Noticing s k offset t₀ out₀ t out at n)
    (lt : n < length (tokens_of s)) (x : List ℕ) (is : x ≡ get_or (tokens_of s) n x) where
  here : drop n (tokens_of s) ≡ x ∷ drop (n + 1) (tokens_of s)
  here = drop-cons (tokens_of s) n x lt ∙ ap₂ (λ (y : List ℕ) (j : ℕ). y ∷ drop j (tokens_of s)) (sym is) (sym (add-one n))

  pub noticing_room : at + length x ≤ offset + length s
  noticing_room = omega (arith, inv.place, ap width here)

  pub noticing_turn : {r : Tally} {last : List ℕ} → length last ≡ length out
      → Same t r × ((cells : List ℕ) (parts : List Part) → told (Ok r) cells parts last ≡ landed (goes (notice_other k (n + 1) at x (state_of cells parts t))) out t.at)
      → Noticing s k offset t₀ out₀ r last (at + (length x + 1)) (n + 1)
  noticing_turn {r} {last} l w = record {
    kept = l ∙ inv.kept;
    same = same_same inv.same w.0;
    place = omega (arith, inv.place, ap width here);
    left =
        λ cells parts.
        ap (λ (a : ℕ). landed (goes (notice_others k (n + 1 + 1) (placed a (drop (n + 1) (tokens_of s))) (state_of cells parts r))) last r.at) next
        ∙ carry r cells parts last out t.at (notice_other k (n + 1) at x (state_of cells parts t)) (notice_others k (n + 1 + 1) (placed (at + length x + 1) (drop (n + 1) (tokens_of s)))) (w.1 cells parts)
        ∙ ap (λ (q : Result). landed (goes q) out t.at) (sym (others_here k (n + 1) at x (drop (n + 1) (tokens_of s)) (state_of cells parts t)))
        ∙ ap (λ (q : List (List ℕ)). landed (goes (notice_others k (n + 1) (placed at q) (state_of cells parts t))) out t.at) (sym here)
        ∙ inv.left cells parts;
  }
    where
      next : at + (length x + 1) ≡ at + length x + 1
      next = omega arith

pub noticing_past : {s : List ℕ} {k offset : ℕ} {t₀ t : Tally} {out₀ out : List ℕ} {at n : ℕ} → Noticing s k offset t₀ out₀ t out at n → n ≡ length (tokens_of s)
    → Same t₀ t × ((cells : List ℕ) (parts : List Part) → told (Ok t) cells parts out ≡ landed (goes (notice_others k 1 (placed offset (tokens_of s)) (state_of cells parts t₀))) out₀ t₀.at)
unfolding notice_others placed laid behind
noticing_past {s} {k} {offset} {t₀} {t} {out₀} {out} {at} {n} inv h = (
  inv.same,
  λ cells parts.
      ap (λ (q : List (List ℕ)). landed (goes (notice_others k (n + 1) (placed at q) (state_of cells parts t))) out t.at)
      (sym (drop_of_length-le (tokens_of s) {i = n} (omega arith)))
      ∙ inv.left cells parts,
)
