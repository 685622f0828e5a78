-- One column: what an interpretation comes to in the state that the code keeps.
use Rattle.std.specs.Prelude.{Ok}
use mathlib.Core.Path.{◌≡◌, refl, sym, ap, ap₂, ◌∙◌, subst}
use Prim.Native.Nat.{ℕ, ◌+◌, ◌-◌, ◌≤◌, ◌<◌}
use mathlib.Core.Bool.{Bool, false}
use mathlib.Core.Logic.{◌⊎◌, inl, inr}
use mathlib.Core.List.{List, []}
use lib.ListN.{length, take, set, get_or}
use lib.Seq.{set-get_or, take-set-lt}
use Rattle.state.proofs.CountLaws.{same}
use Rattle.state.specs.Counts.{Same}
use Rattle.interpretation.specs.Interpretation.{interpretation_of}
use Rattle.interpretation.specs.declared.Interpretation.{Interpretation}
use Rattle.interpretation.specs.declared.Interpretation.TheVariants.{Nothing, Clef, Key, Meter, Symbol, Tempo, Name, ShortName, Mode}
use Rattle.interpretation.specs.declared.Unsupported.{Unsupported}
use Rattle.interpretation.specs.Unsupported.{notice_number, Says}
use Rattle.std.proofs.Common.{Ok, Err}
use Rattle.paths.specs.declared.PathToken.{PathToken}
use Rattle.paths.specs.declared.PathToken.TheVariants.{Split, Join, Exchange, End, Other}
use Rattle.paths.specs.Token.{path_token}
use Rattle.paths.specs.declared.Spine.{Spine}
use Rattle.paths.specs.declared.Spine.TheVariants.{Line, Branch, Outside}
use Rattle.sheet.specs.Record.{span_of}
use Rattle.sheet.specs.declared.Span.{Span}
use Rattle.reading.specs.State.{State, Result, goes, fresh_part, part_at, with_parts}
use Rattle.reading.specs.declared.Part.{Part}
use Rattle.reading.specs.Notices.{Token, quiet, notify}
use Rattle.reading.specs.Star.{applied, heeded, interpret, column_by, first_tempo}
use Rattle.state.specs.declared.Tally.{Tally}
use Rattle.state.specs.Lay.{laid, behind}
use Rattle.state.specs.View.{state_of, landed, told}
use Rattle.state.proofs.PartLaws.{part_in}
use Rattle.writing.specs.Kept.{notice_of, kept_records, after_kept}
use Rattle.writing.proofs.KeptLaws.{notify_told, kept_same}
use Rattle.tandem.specs.Change.{changed}
use Rattle.stars.specs.Columns.{token_of, tempoed, Comes}

-- ---- a piece of the reading that says the same; one that does nothing; a notice

pub comes_as : {f g : State → Result} {parts : List Part} {out : List ℕ} {parts' : List Part} {out' : List ℕ} {t r : Tally} → ((st : State) → g st ≡ f st) → Comes f parts out t parts' out' r
    → Comes g parts out t parts' out' r
comes_as {parts} {out} {t} e h = record {
  same = λ (cells : List ℕ). h.same cells ∙ ap (λ (x : Result). landed (goes x) out t.at) (sym (e (state_of cells parts t)));
  held = h.held;
}

pub comes_quiet : {f : State → Result} {parts : List Part} {out : List ℕ} {t : Tally} → ((st : State) → f st ≡ quiet st) → Comes f parts out t parts out t
unfolding laid behind
comes_quiet {f} {parts} {out} {t} e = record {
  same = λ (cells : List ℕ). ap (λ (x : Result). landed (goes x) out t.at) (sym (e (state_of cells parts t)));
  held = same t;
}

pub comes_notice : {f : State → Result} {parts : List Part} {out out' : List ℕ} {t r : Tally} (number k column : ℕ) (value : Span)
    → (out' ≡ laid out t.at (kept_records t (notice_of number k column value) [])) × (r ≡ after_kept t (notice_of number k column value) [])
    → ((st : State) → f st ≡ notify number k column value st) → Comes f parts out t parts out' r
comes_notice {f} {parts} {out} {out'} {t} {r} number k column value w e = comes_as e (record {
  same = λ (cells : List ℕ).
      ap₂ (λ (x : Tally) (o : List ℕ). told (Ok x) cells parts o) w.1 w.0 ∙ notify_told cells parts t number k column value out;
  held = subst (Same t) (sym w.1) (kept_same t (notice_of number k column value) []);
})

-- ---- an interpretation in a line

tempo_held : (w : Interpretation) (t : Tally) → Same t (tempoed w t)
tempo_held (Tempo x) t = record { active = refl; parts = refl; bars = refl }
tempo_held Nothing t = same t
tempo_held (Clef x) t = same t
tempo_held (Key x) t = same t
tempo_held (Meter x y) t = same t
tempo_held (Symbol x) t = same t
tempo_held Name t = same t
tempo_held ShortName t = same t
tempo_held (Mode x) t = same t

-- the parts changed and the first tempo: what is applied
by_what : (w : Interpretation) (p : ℕ) (tok : Token) (cells : List ℕ) (parts parts' : List Part) (out : List ℕ) (t : Tally)
    → take t.parts parts' ≡ set (take t.parts parts) p (changed w (span_of (tok.at + 3) (length tok.bytes - 3)) (part_at (state_of cells parts t) p))
    → told (Ok (tempoed w t)) cells parts' out ≡ landed (goes (applied w tok p (part_at (state_of cells parts t) p) (state_of cells parts t))) out t.at
unfolding behind laid
by_what Nothing p tok cells parts parts' out t e =
    ap (λ (ps : List Part). landed (goes (quiet (with_parts (state_of cells parts t) ps))) out t.at)
    (e ∙ set-get_or (take t.parts parts) p (fresh_part p))
by_what (Clef x) p tok cells parts parts' out t e = ap (λ (ps : List Part). landed (goes (quiet (with_parts (state_of cells parts t) ps))) out t.at) e
by_what (Key x) p tok cells parts parts' out t e = ap (λ (ps : List Part). landed (goes (quiet (with_parts (state_of cells parts t) ps))) out t.at) e
by_what (Meter x y) p tok cells parts parts' out t e = ap (λ (ps : List Part). landed (goes (quiet (with_parts (state_of cells parts t) ps))) out t.at) e
by_what (Symbol x) p tok cells parts parts' out t e = ap (λ (ps : List Part). landed (goes (quiet (with_parts (state_of cells parts t) ps))) out t.at) e
by_what (Tempo x) p tok cells parts parts' out t e =
    ap (λ (ps : List Part). landed (goes (quiet (first_tempo (with_parts (state_of cells parts t) ps) x))) out t.at) e
by_what Name p tok cells parts parts' out t e = ap (λ (ps : List Part). landed (goes (quiet (with_parts (state_of cells parts t) ps))) out t.at) e
by_what ShortName p tok cells parts parts' out t e = ap (λ (ps : List Part). landed (goes (quiet (with_parts (state_of cells parts t) ps))) out t.at) e
by_what (Mode x) p tok cells parts parts' out t e = ap (λ (ps : List Part). landed (goes (quiet (with_parts (state_of cells parts t) ps))) out t.at) e

-- what the token says, by the state before it
module _ (bytes : List ℕ) (p k j at : ℕ) (d : Part) (parts : List Part) (tally : Tally) {says : Says} (low : p < tally.parts) (top : tally.parts ≤ length parts)
    (w : says ≡ interpretation_of bytes (get_or parts p d).noted) where
  part_is : get_or parts p d ≡ get_or (take tally.parts parts) p (fresh_part p)
  part_is = part_in tally.parts p d (fresh_part p) parts low top

  heeded_is : (cells : List ℕ) → heeded says k j (token_of at bytes) p (part_at (state_of cells parts tally) p) (state_of cells parts tally)
      ≡ interpret (Line p 0) k j (token_of at bytes) (state_of cells parts tally)
  heeded_is cells =
      ap (λ (x : Says). heeded x k j (token_of at bytes) p (part_at (state_of cells parts tally) p) (state_of cells parts tally))
      (w ∙ ap (λ (x : Part). interpretation_of bytes x.noted) part_is)

  -- the part comes back as q
  pub apply_comes : {q : Part} {out : List ℕ} {t : Tally} {what : Interpretation} → says ≡ Ok what
      → q ≡ changed what (span_of (at + 3) (length bytes - 3)) (get_or parts p d)
      → t ≡ tempoed what tally
      → Comes (interpret (Line p 0) k j (token_of at bytes)) parts out tally (set parts p q) out t
  apply_comes {q} {out} {t} {what} o c f =
      let changes : take tally.parts (set parts p q) ≡ set (take tally.parts parts) p (changed what (span_of (at + 3) (length bytes - 3)) (get_or (take tally.parts parts) p (fresh_part p)))
      = take-set-lt tally.parts parts p q low
      ∙ ap (set (take tally.parts parts) p) (c ∙ ap (changed what (span_of (at + 3) (length bytes - 3))) part_is) in
      record {
        same = λ (cells : List ℕ).
            ap (λ (x : Tally). told (Ok x) cells (set parts p q) out) f
            ∙ by_what what p (token_of at bytes) cells parts (set parts p q) out tally changes
            ∙ ap (λ (x : Says). landed (goes (heeded x k j (token_of at bytes) p (part_at (state_of cells parts tally) p) (state_of cells parts tally))) out tally.at) (sym o)
            ∙ ap (λ (r : Result). landed (goes r) out tally.at) (heeded_is cells);
        held = subst (Same tally) (sym f) (tempo_held what tally);
      }

  pub notice_comes : {out out' : List ℕ} {r : Tally} {why : Unsupported} {number : ℕ} → says ≡ Err why → number ≡ notice_number why
      → (out' ≡ laid out tally.at (kept_records tally (notice_of number k j (span_of at (length bytes))) [])) × (r ≡ after_kept tally (notice_of number k j (span_of at (length bytes))) [])
      → Comes (interpret (Line p 0) k j (token_of at bytes)) parts out tally parts out' r
  notice_comes {out} {out'} {r} {why} {number} o e q =
      let noticed = comes_notice {f = notify number k j (span_of at (length bytes))} number k j (span_of at (length bytes)) q (λ (st : State). refl) in
      record {
        same = λ (cells : List ℕ).
            noticed.same cells
            ∙ ap (λ (x : ℕ). landed (goes (notify x k j (span_of at (length bytes)) (state_of cells parts tally))) out tally.at) e
            ∙ ap (λ (x : Says). landed (goes (heeded x k j (token_of at bytes) p (part_at (state_of cells parts tally) p) (state_of cells parts tally))) out tally.at) (sym o)
            ∙ ap (λ (r : Result). landed (goes r) out tally.at) (heeded_is cells);
        held = noticed.held;
      }

-- ---- by the column's spine

pub no_line : {s : Spine} (k j : ℕ) (tok : Token) → ((x : ℕ) × (s ≡ Branch x)) ⊎ (s ≡ Outside) → (st : State) → interpret s k j tok st ≡ quiet st
no_line k j tok (inl h) st = ap (λ (x : Spine). interpret x k j tok st) h.1
no_line k j tok (inr e) st = ap (λ (x : Spine). interpret x k j tok st) e

-- ---- by the token

module _ (bytes : List ℕ) (b : Bool) (s : Spine) (k j : ℕ) (tok : Token) {m : PathToken} (p : m ≡ path_token bytes) where
  pub by_token : {n : PathToken} → m ≡ n → (st : State) → column_by (path_token bytes) b s k j tok st ≡ column_by n b s k j tok st
  by_token q st = ap (λ (x : PathToken). column_by x b s k j tok st) (sym p ∙ q)

  -- `*^`, `*v` and `*-` set nothing
  pub no_path : (m ≡ Split) ⊎ ((m ≡ Join) ⊎ (m ≡ End)) → (st : State) → column_by (path_token bytes) b s k j tok st ≡ quiet st
  no_path (inl e) st = by_token e st
  no_path (inr (inl e)) st = by_token e st
  no_path (inr (inr e)) st = by_token e st

  -- `*x` that pairs with no other, and any token that is no path token
  pub no_pair : (m ≡ Exchange) ⊎ (m ≡ Other) → b ≡ false → (st : State) → column_by (path_token bytes) b s k j tok st ≡ interpret s k j tok st
  no_pair (inl e) q st = by_token e st ∙ ap (λ (x : Bool). column_by Exchange x s k j tok st) q
  no_pair (inr e) q st = by_token e st

  pub by_pair : {c : Bool} → m ≡ Exchange → b ≡ c → (st : State) → column_by (path_token bytes) b s k j tok st ≡ column_by Exchange c s k j tok st
  by_pair q e st = by_token q st ∙ ap (λ (x : Bool). column_by Exchange x s k j tok st) e
