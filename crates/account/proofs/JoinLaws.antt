-- "an accepted trace ends in the same part, or outside kern, whichever line of a join it follows" (request E5): of each column over which a taken record
-- of an accepted text stands; so the note tokens by any such trace are those by the leftmost.
use Prim.Native.Nat.{ℕ, zero, suc, ◌+◌, ◌<◌}
use native.Mathlib.Omega.{arith}
use mathlib.Core.Bool.{Bool, false}
use mathlib.Core.List.{List, [], ◌∷◌}
use mathlib.Core.Option.{Option, bind}
use mathlib.Core.Path.{◌≡◌, refl}
use lib.ListN.{length}
use Rattle.lines.specs.declared.Kind.{Kind}
use Rattle.lines.specs.declared.Kind.TheVariants.{Empty, Reference, Comment, Star, Bar, Data}
use Rattle.paths.specs.Demand.{At}
use Rattle.paths.specs.Record.{Rec}
use Rattle.paths.specs.declared.Spine.{Spine}
use Rattle.paths.specs.Trace.{Ending, end_part, part, MayEnd}
use Rattle.paths.specs.TracedVoice.{voice}
use Rattle.paths.proofs.Demand.{demand}
use Rattle.sheet.specs.Record.{Record}
use Rattle.reading.specs.Text.{accepted, read_text}
use Rattle.account.specs.Rows.{header_of, paths_of, Taken, taken_of}
use Rattle.account.specs.Account.{kern_columns, items_from, items_of, items_by, account_from, account_by, account}
use Rattle.account.proofs.RecordLaws.{OnRows}
use Rattle.account.proofs.Accepted.{accepted_notes}

-- ---- what the text says, by parts that are the same

same_kern : (f g : ℕ → Option ℕ) → ((j : ℕ) → f j ≡ g j) → (j : ℕ) (ts : List (List ℕ)) → kern_columns f j ts ≡ kern_columns g j ts
unfolding kern_columns
same_kern f g e j [] = refl
same_kern f g e j (t ∷ ts) = rw (e j, same_kern f g e (suc j) ts)

same_items : (f g : ℕ → Option ℕ) (voice_at : ℕ → ℕ) (all : List (List ℕ)) (kern : List Bool) (k bar : ℕ)
    → ((j : ℕ) → f j ≡ g j) → (j : ℕ) (ts : List (List ℕ)) → items_from f voice_at all kern k bar j ts ≡ items_from g voice_at all kern k bar j ts
unfolding items_from
same_items f g voice_at all kern k bar e j [] = refl
same_items f g voice_at all kern k bar e j (t ∷ ts) = rw (e j, same_items f g voice_at all kern k bar e (suc j) ts)

module _ (parts parts' : ℕ → ℕ → Option ℕ) (voices : ℕ → ℕ → ℕ) where
  -- the columns over which these taken records stand, the first of them the n-th behind the header, have the same parts
  abbrev SameParts : ℕ → List Taken → Type 0
  SameParts n [] = Unit {0}
  SameParts n (t ∷ ts) = ((j : ℕ) → parts n j ≡ parts' n j) × SameParts (suc n) ts

  same_record : (n c : ℕ) (t : Taken) → ((j : ℕ) → parts n j ≡ parts' n j) → (kind : Kind)
      → items_by parts voices kind n c t ≡ items_by parts' voices kind n c t
  unfolding items_of
  same_record n c t e Empty = refl
  same_record n c t e Reference = refl
  same_record n c t e Comment = refl
  same_record n c t e Star = refl
  same_record n c t e Bar = refl
  same_record n c t e Data =
      rw (same_kern (parts n) (parts' n) e 0 t.tokens)
      (same_items (parts n) (parts' n) (voices n) t.tokens (kern_columns (parts' n) 0 t.tokens) t.number (c + 1) e 0 t.tokens)

  same_account : (ts : List Taken) (n c : ℕ) (b : Bool) → SameParts n ts → account_from parts voices n c b ts ≡ account_from parts' voices n c b ts
  unfolding account_from
  same_account [] n c b s = refl
  same_account (t ∷ ts) n c b (e, s) = rw (same_record n c t e t.kind, same_account ts (suc n) _ _ s)

-- ---- the traces

-- the row over which the m-th of some taken records stands
row_at : (h : List Bool) (recs : ℕ → Rec) (ts : List Taken) (n m : ℕ) → OnRows h recs n ts → m < length ts
    → (row : List Spine) × At h recs (n + m) row
row_at h recs [] n m rows l = absurd (omega arith)
row_at h recs (t ∷ ts) n zero (here, rows) l = let z : n + 0 ≡ n = omega arith in rw z here
row_at h recs (t ∷ ts) n (suc m) (here, rows) l = let z : n + suc m ≡ suc n + m = omega arith in rw z (row_at h recs ts (suc n) m rows (omega arith))

module _ (text : List ℕ) (parts notes : ℕ) (rs : List Record) (is : read_text text ≡ accepted parts notes rs) where
  pub one_origin : (n : ℕ) → n < length (taken_of text) → (j : ℕ) (e : Option Ending) → MayEnd (paths_of text) n j e
      → bind e (end_part (header_of text) (paths_of text)) ≡ part (header_of text) (paths_of text) n j
  one_origin n l j e m =
      let z : 0 + n ≡ n = omega arith in
      let r : (row : List Spine) × At (header_of text) (paths_of text) n row =
      rw z at (row_at (header_of text) (paths_of text) (taken_of text) 0 n (accepted_notes text parts notes rs is).rows l) in
      (demand (header_of text) (paths_of text)).one_origin n r.0 r.1 j e m

  -- where each column's trace may end
  module _ (ends : ℕ → ℕ → Option Ending) (may_end : (n j : ℕ) → MayEnd (paths_of text) n j (ends n j)) where
    abbrev by_ends : ℕ → ℕ → Option ℕ
    by_ends n j = bind (ends n j) (end_part (header_of text) (paths_of text))

    same_parts : (ts : List Taken) (n : ℕ) → OnRows (header_of text) (paths_of text) n ts
        → SameParts by_ends (part (header_of text) (paths_of text)) (voice (header_of text) (paths_of text)) n ts
    same_parts [] n rows = tt
    same_parts (t ∷ ts) n ((row, at), rows) =
        (λ j. (demand (header_of text) (paths_of text)).one_origin n row at j (ends n j) (may_end n j), same_parts ts (suc n) rows)

    -- the note tokens are the same, whichever line of a join the traces follow
    pub any_line : account_by by_ends text ≡ account text
    unfolding account account_by
    any_line =
        same_account by_ends (part (header_of text) (paths_of text)) (voice (header_of text) (paths_of text)) (taken_of text) 0 0 false
        (same_parts (taken_of text) 0 (accepted_notes text parts notes rs is).rows)
