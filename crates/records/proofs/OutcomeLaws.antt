-- What the pieces of a record's reading come to, one after another.
use mathlib.Core.Path.{◌≡◌, refl, sym, ap, ap₂, subst, ◌∙◌}
use Prim.Native.Nat.{ℕ, ◌<◌}
use native.Mathlib.Nat.{not-suc-le-zero}
use native.Mathlib.Omega.{arith}
use mathlib.Core.List.{List, [], ◌∷◌, map}
use lib.ListN.{length, take, length-map}
use Rattle.state.specs.Counts.{Same}
use Rattle.lines.specs.Tokens.{tokens_of}
use Rattle.spines.specs.Cells.{row_of, spine_of}
use Rattle.std.proofs.Common.{Option, Some, None}
use Rattle.repair.specs.Repair.{repaired, repaired_of, repair_notice}
use Rattle.repair.specs.declared.Repair.{Repair}
use Rattle.sheet.specs.Record.{span_of}
use Rattle.reading.specs.State.{State, Result, Step, goes, ends}
use Rattle.reading.specs.declared.Part.{Part}
use Rattle.reading.specs.Notices.{placed, notify, quiet}
use Rattle.reading.specs.Notes as notes
use Rattle.reading.specs.Records.{notice_repair, by_repair, on_row}
use Rattle.state.specs.declared.Tally.{Tally}
use Rattle.refusal.specs.declared.Refusal.{Refusal}
use Rattle.std.specs.Prelude.{Ok, Err, Result as Answered}
use Rattle.state.specs.Lay.{laid, behind}
use Rattle.state.specs.View.{state_of, ending, landed, told, told_row}
use Rattle.notes.specs.Spot.{Kept}
use Rattle.state.proofs.ViewLaws.{landed_behind}
use Rattle.writing.specs.Kept.{notice_of, kept_records, after_kept}
use Rattle.writing.proofs.KeptLaws.{kept_same, notify_told}

-- a result that was told, and a step behind it
pub landed_told : (u : Tally) (cells : List ℕ) (parts : List Part) (out' : List ℕ) (r : Result) (f : State → Step) (out : List ℕ) (at : ℕ)
    → told (Ok u) cells parts out' ≡ landed (goes r) out at
    → landed (notes.behind r f) out at ≡ landed (f (state_of cells parts u)) out' u.at
landed_told u cells parts out' r f out at e =
    let s : state_of cells parts u ≡ r.state = cc in
    let p : u.at ≡ behind at r.records = cc in
    let o : out' ≡ laid out at r.records = cc in
    landed_behind r f out at
    ∙ ap (λ (x : State). landed (f x) (laid out at r.records) (behind at r.records)) (sym s)
    ∙ ap₂ (landed (f (state_of cells parts u))) (sym o) (sym p)

-- with no active spine left
pub none_left : (cells line : List ℕ) (k at : ℕ) (st : State) → length cells ≡ 0 → on_row (row_of cells) k at line st ≡ ends (notify 3 k 0 (span_of at (length line)) st)
unfolding row_of
none_left [] line k at st e = refl
none_left (c ∷ cells) line k at st e = absurd (not-suc-le-zero {n = 0} (omega arith))

-- with some
pub some_left : (cells line : List ℕ) (n k at : ℕ) (st : State) → length cells ≡ n → 0 < n
    → on_row (row_of cells) k at line st ≡ by_repair (repaired_of n (tokens_of line)) k at line (placed at (repaired n (tokens_of line))) st
unfolding row_of
some_left [] line n k at st e h = absurd (not-suc-le-zero {n = 0} (omega arith))
some_left (c ∷ cells) line n k at st e h =
    let m : length (map spine_of (c ∷ cells)) ≡ n = length-map (c ∷ cells) spine_of ∙ e in
    ap (λ (j : ℕ). by_repair (repaired_of j (tokens_of line)) k at line (placed at (repaired j (tokens_of line))) st) m

-- a result that ends the reading
pub ends_told : (u : Tally) (cells : List ℕ) (parts : List Part) (out' : List ℕ) (r : Result) (out : List ℕ) (at : ℕ)
    → told (Ok u) cells parts out' ≡ landed (goes r) out at → ending (state_of cells parts u) u.at out' ≡ landed (ends r) out at
ends_told u cells parts out' r out at e =
    let s : state_of cells parts u ≡ r.state = cc in
    let p : u.at ≡ behind at r.records = cc in
    let o : out' ≡ laid out at r.records = cc in
    ap (λ (x : State). ending x u.at out') s ∙ ap₂ (ending r.state) p o

-- notices 4, 5 and 6, or none
pub no_repair : (r : Repair) (k at : ℕ) (line : List ℕ) (st : State) → repair_notice r ≡ None → notice_repair r k at line st ≡ quiet st
unfolding notice_repair
no_repair r k at line st e = rw e

pub repair_noticed : (r : Repair) (k at : ℕ) (line : List ℕ) (st : State) (n : ℕ) → repair_notice r ≡ Some n → notice_repair r k at line st ≡ notify n k 0 (span_of at (length line)) st
unfolding notice_repair
repair_noticed r k at line st n e = rw e

-- nothing arises
pub quiet_told : (t : Tally) (cells : List ℕ) (parts : List Part) (out : List ℕ) → told (Ok t) cells parts out ≡ landed (goes (quiet (state_of cells parts t))) out t.at
unfolding laid behind
quiet_told t cells parts out = refl

module _ (r : Repair) (k at : ℕ) (line : List ℕ) (t : Tally) (out : List ℕ) where
  pub no_repair_told : {o : Option ℕ} → o ≡ repair_notice r → o ≡ None → (cells : List ℕ) (parts : List Part)
      → told (Ok t) cells parts out ≡ landed (goes (notice_repair r k at line (state_of cells parts t))) out t.at
  no_repair_told e z cells parts =
      quiet_told t cells parts out
      ∙ ap (λ (x : Result). landed (goes x) out t.at) (sym (no_repair r k at line (state_of cells parts t) (sym e ∙ z)))

  pub repair_told : {o : Option ℕ} {n len : ℕ} {u : Tally} {out' : List ℕ} → o ≡ repair_notice r → o ≡ Some n → len ≡ length line
      → (out' ≡ laid out t.at (kept_records t (notice_of n k 0 (span_of at len)) [])) × (u ≡ after_kept t (notice_of n k 0 (span_of at len)) [])
      → ((cells : List ℕ) (parts : List Part) → told (Ok u) cells parts out' ≡ landed (goes (notice_repair r k at line (state_of cells parts t))) out t.at) × Same t u
  repair_told {o} {n} {len} {u} {out'} e z l w = (
    λ (cells : List ℕ) (parts : List Part).
        ap₂ (λ (x : Tally) (o : List ℕ). told (Ok x) cells parts o) w.1 w.0
        ∙ notify_told cells parts t n k 0 (span_of at len) out
        ∙ ap (λ (j : ℕ). landed (goes (notify n k 0 (span_of at j) (state_of cells parts t))) out t.at) l
        ∙ ap (λ (x : Result). landed (goes x) out t.at) (sym (repair_noticed r k at line (state_of cells parts t) n (sym e ∙ z))),
    subst (λ (x : Tally). Same t x) (sym w.1) (kept_same t (notice_of n k 0 (span_of at len)) []),
  )

-- a step that keeps the active spines
pub kept_row : (s : Answered Tally Refusal) (t : Tally) → Kept t s → (row : List ℕ) (parts : List Part) (out : List ℕ) → told_row s row parts out ≡ told s (take t.active row) parts out
kept_row (Ok u) t k row parts out = ap (λ (n : ℕ). told (Ok u) (take n row) parts out) k.active
kept_row (Err n) t k row parts out = refl
