-- "Notes of one record never share part and voice": of an accepted text's note tokens, and of its NOTEs.
use Prim.Native.Nat.{ℕ, zero, suc, ◌+◌, ◌<◌, ◌≤◌}
use native.Mathlib.Omega.{arith}
use mathlib.Core.Bool.{Bool, true, false, cond}
use mathlib.Core.List.{List, [], ◌∷◌, ◌++◌}
use mathlib.Core.Logic.{◌≢◌}
use mathlib.Core.Option.{Option, none, some}
use mathlib.Core.Path.{◌≡◌, refl, sym, ap, ◌∙◌}
use lib.ListN.{length}
use Rattle.slices.proofs.TestLaws.{clash}
use Rattle.lines.specs.Lines.{lines_of, without_crs, kind_of}
use Rattle.lines.specs.Tokens.{is_null}
use Rattle.lines.specs.declared.Kind.{Kind}
use Rattle.lines.specs.declared.Kind.TheVariants.{Empty, Reference, Comment, Star, Bar, Data}
use Rattle.token.specs.Account.{is_note}
use Rattle.paths.specs.Demand.{At}
use Rattle.paths.specs.Record.{Rec}
use Rattle.paths.specs.Row.{part_of, spine_at}
use Rattle.paths.specs.declared.Spine.{Spine}
use Rattle.paths.specs.declared.Spine.TheVariants.{Line, Branch, Outside}
use Rattle.paths.specs.Trace.{part}
use Rattle.paths.specs.TracedVoice.{voice}
use Rattle.paths.proofs.Demand.{demand}
use Rattle.paths.proofs.TracedVoices.{traced_voice}
use Rattle.sheet.specs.Player.{Noted, notes_of}
use Rattle.sheet.specs.Record.{Record}
use Rattle.reading.specs.Text.{accepted, read_text}
use Rattle.account.specs.Rows.{Numbered, is_record, records_from, records_of, header_of, later_in, later_of, paths_of, Taken, taken_from, taken_of}
use Rattle.account.specs.Account.{Item, inferred_of, item_of, item_in, items_from, closings_after, noted_after, items_of, account_from, account_by, account}
use Rattle.account.specs.Agree.{Share, NoneOf, Apart, NotesShare, Distinct, Plays, Agree, both_end, one_more}
use Rattle.account.proofs.RecordLaws.{items_at, OnRows}
use Rattle.account.proofs.Accepted.{accepted_notes}

-- an item shares with none of a list
abbrev SharesNone : Item → List Item → Type 0
SharesNone a is = NoneOf Share a is

shares_append : (a : Item) (xs ys : List Item) → SharesNone a xs → SharesNone a ys → SharesNone a (xs ++ ys)
shares_append a [] ys n m = m
shares_append a (x ∷ xs) ys (d, n) m = (d, shares_append a xs ys n m)

-- ---- lines

-- each item stands on a line of its own number above k
abbrev Above : ℕ → List Item → Type 0
Above k [] = Unit {0}
Above k (i ∷ is) = (k < i.line) × Above k is

-- all items stand on line k
abbrev OnLine : ℕ → List Item → Type 0
OnLine k [] = Unit {0}
OnLine k (i ∷ is) = (i.line ≡ k) × OnLine k is

above_less : (j k : ℕ) (is : List Item) → j ≤ k → Above k is → Above j is
above_less j k [] l a = tt
above_less j k (i ∷ is) l (b, a) = (omega arith, above_less j k is l a)

above_append : (k : ℕ) (xs ys : List Item) → Above k xs → Above k ys → Above k (xs ++ ys)
above_append k [] ys a b = b
above_append k (x ∷ xs) ys (c, a) b = (c, above_append k xs ys a b)

line_above : (j k : ℕ) (is : List Item) → j < k → OnLine k is → Above j is
line_above j k [] l o = tt
line_above j k (i ∷ is) l (e, o) = (omega arith, line_above j k is l o)

above_shares : (k : ℕ) (a : Item) (is : List Item) → a.line ≡ k → Above k is → SharesNone a is
above_shares k a [] e b = tt
above_shares k a (i ∷ is) e (l, b) = (λ s. omega (arith, s.0), above_shares k a is e b)

-- items of one line before items of later ones
distinct_append : (k : ℕ) (xs ys : List Item) → OnLine k xs → Above k ys → Distinct xs → Distinct ys → Distinct (xs ++ ys)
distinct_append k [] ys o a d e = e
distinct_append k (x ∷ xs) ys (i, o) a (n, d) e = (shares_append x xs ys n (above_shares k x ys i a), distinct_append k xs ys o a d e)

-- ---- one record

-- columns of one part have different voices
abbrev Differ : (ℕ → Option ℕ) → (ℕ → ℕ) → Type 0
Differ part_at voice_at = (i j p : ℕ) → i ≢ j → part_at i ≡ some p → part_at j ≡ some p → voice_at i ≢ voice_at j

module _ (part_at : ℕ → Option ℕ) (voice_at : ℕ → ℕ) (all : List (List ℕ)) (kern : List Bool) (k bar : ℕ) where
  abbrev items : ℕ → List (List ℕ) → List Item
  items j ts = items_from part_at voice_at all kern k bar j ts

  abbrev item_at : ℕ → ℕ → List ℕ → Item
  item_at p j t = item_of part_at voice_at all kern k bar p j t

  -- an item with a part and a voice that no column has from j on
  avoids : (a : Item) (j : ℕ) (ts : List (List ℕ)) → ((i : ℕ) → j ≤ i → part_at i ≡ some a.part → a.voice ≢ voice_at i) → SharesNone a (items j ts)
  unfolding items_from
  avoids a j [] d = tt
  avoids a j (t ∷ ts) d = go (part_at j) refl (avoids a (suc j) ts (λ i l. d i (omega arith)))
    where
      heard : (p : ℕ) (x y : Bool) → part_at j ≡ some p → SharesNone a (items (suc j) ts)
          → SharesNone a (cond x [] (cond y (item_at p j t ∷ []) []) ++ items (suc j) ts)
      heard p true y e n = n
      heard p false true e n = (λ s. d j (omega arith) (rw s.1 e) s.2, n)
      heard p false false e n = n

      go : (o : Option ℕ) → part_at j ≡ o → SharesNone a (items (suc j) ts)
          → SharesNone a (item_in part_at voice_at all kern k bar o j t ++ items (suc j) ts)
      go none e n = n
      go (some p) e n = heard p (is_null t) (is_note t (inferred_of all kern j t)) e n

  -- the items of a record
  record_distinct : (j : ℕ) (ts : List (List ℕ)) → Differ part_at voice_at → Distinct (items j ts)
  unfolding items_from
  record_distinct j [] d = tt
  record_distinct j (t ∷ ts) d = go (part_at j) refl (record_distinct (suc j) ts d)
    where
      heard : (p : ℕ) (x y : Bool) → part_at j ≡ some p → Distinct (items (suc j) ts)
          → Distinct (cond x [] (cond y (item_at p j t ∷ []) []) ++ items (suc j) ts)
      heard p true y e ds = ds
      heard p false true e ds = (avoids (item_at p j t) (suc j) ts (λ i l f. d j i p (λ y. omega arith) e f), ds)
      heard p false false e ds = ds

      go : (o : Option ℕ) → part_at j ≡ o → Distinct (items (suc j) ts) → Distinct (item_in part_at voice_at all kern k bar o j t ++ items (suc j) ts)
      go none e ds = ds
      go (some p) e ds = heard p (is_null t) (is_note t (inferred_of all kern j t)) e ds

  -- they stand on its line
  on_line : (j : ℕ) (ts : List (List ℕ)) → OnLine k (items j ts)
  unfolding items_from
  on_line j [] = tt
  on_line j (t ∷ ts) = go (part_at j) (on_line (suc j) ts)
    where
      heard : (p : ℕ) (x y : Bool) → OnLine k (items (suc j) ts) → OnLine k (cond x [] (cond y (item_at p j t ∷ []) []) ++ items (suc j) ts)
      heard p true y o = o
      heard p false true o = (refl, o)
      heard p false false o = o

      go : (p : Option ℕ) → OnLine k (items (suc j) ts) → OnLine k (item_in part_at voice_at all kern k bar p j t ++ items (suc j) ts)
      go none o = o
      go (some p) o = heard p (is_null t) (is_note t (inferred_of all kern j t)) o

-- so of a row that the paths reach
row_differ : (h : List Bool) (recs : ℕ → Rec) (n : ℕ) (row : List Spine) → At h recs n row → Differ (part h recs n) (voice h recs n)
row_differ h recs n row at i j p d e f =
    (demand h recs).differ n row at i j p (voice h recs n i) (voice h recs n j) d (line_at i (spine_at row i) refl e) (line_at j (spine_at row j) refl f)
  where
    line_at : (i : ℕ) (s : Spine) → spine_at row i ≡ s → part h recs n i ≡ some p → spine_at row i ≡ Line p (voice h recs n i)
    line_at i (Line q v) x e =
        let same : part_of (Line q v) ≡ some p = ap part_of (sym x) ∙ (demand h recs).in_part n row at i ∙ e in
        let q_is : q ≡ p = cc in
        rw (traced_voice h recs n row at i q v x, ← q_is) x
    line_at i (Branch q) x e = absurd ((demand h recs).voiced n row at i q x)
    line_at i Outside x e = let same : part_of Outside ≡ some p = ap part_of (sym x) ∙ (demand h recs).in_part n row at i ∙ e in clash cc

-- ---- the records of a text

-- records on rising lines above k
abbrev Rising : ℕ → List Numbered → Type 0
Rising k [] = Unit {0}
Rising k (x ∷ rs) = (k < x.number) × Rising x.number rs

rising : (j k : ℕ) (ls : List (List ℕ)) → j ≤ k → Rising j (records_from k ls)
unfolding records_from
rising j k [] l = tt
rising j k (b ∷ ls) l = go (is_record (kind_of (without_crs b))) (rising (k + 1) (k + 1) ls (omega arith)) (rising j (k + 1) ls (omega arith))
  where
    go : (t : Bool) → Rising (k + 1) (records_from (k + 1) ls) → Rising j (records_from (k + 1) ls)
        → Rising j (cond t (record { number = k + 1; bytes = without_crs b } ∷ records_from (k + 1) ls) (records_from (k + 1) ls))
    go true r s = (omega arith, r)
    go false r s = s

-- so are those of them that are taken
abbrev TakenRising : ℕ → List Taken → Type 0
TakenRising k [] = Unit {0}
TakenRising k (t ∷ ts) = (k < t.number) × TakenRising t.number ts

taken_rising : (rs : List Numbered) (w k : ℕ) → Rising k rs → TakenRising k (taken_from w rs)
unfolding taken_from
taken_rising [] w k u = tt
taken_rising (x ∷ rs) zero k u = tt
taken_rising (x ∷ rs) (suc w) k (l, u) = (l, taken_rising rs _ x.number u)

module _ (h : List Bool) (recs : ℕ → Rec) where
  -- the items of one taken record
  by_line_lem : (kind : Kind) (n c : ℕ) (t : Taken) → OnLine t.number (items_at h recs kind n c t)
  unfolding items_of
  by_line_lem Empty n c t = tt
  by_line_lem Reference n c t = tt
  by_line_lem Comment n c t = tt
  by_line_lem Star n c t = tt
  by_line_lem Bar n c t = tt
  by_line_lem Data n c t = on_line (part h recs n) (voice h recs n) _ _ t.number (c + 1) 0 t.tokens

  by_distinct : (kind : Kind) (n c : ℕ) (t : Taken) (row : List Spine) → At h recs n row → Distinct (items_at h recs kind n c t)
  unfolding items_of
  by_distinct Empty n c t row at = tt
  by_distinct Reference n c t row at = tt
  by_distinct Comment n c t row at = tt
  by_distinct Star n c t row at = tt
  by_distinct Bar n c t row at = tt
  by_distinct Data n c t row at = record_distinct (part h recs n) (voice h recs n) _ _ t.number (c + 1) 0 t.tokens (row_differ h recs n row at)

  abbrev items_after : ℕ → ℕ → Bool → List Taken → List Item
  items_after n c b ts = account_from (part h recs) (voice h recs) n c b ts

  abbrev items_behind : ℕ → ℕ → Bool → Taken → List Taken → List Item
  items_behind n c b t ts = items_after (suc n) (closings_after t.kind b c) (noted_after t.kind b (items_at h recs t.kind n c t)) ts

  account_above : (ts : List Taken) (n k c : ℕ) (b : Bool) → TakenRising k ts → Above k (items_after n c b ts)
  unfolding account_from
  account_above [] n k c b u = tt
  account_above (t ∷ ts) n k c b (l, u) =
      above_append k (items_at h recs t.kind n c t) (items_behind n c b t ts)
      (line_above k t.number (items_at h recs t.kind n c t) l (by_line_lem t.kind n c t))
      (above_less k t.number (items_behind n c b t ts) (omega arith) (account_above ts (suc n) t.number _ _ u))

  account_distinct : (ts : List Taken) (n k c : ℕ) (b : Bool) → TakenRising k ts → OnRows h recs n ts → Distinct (items_after n c b ts)
  unfolding account_from
  account_distinct [] n k c b u rows = tt
  account_distinct (t ∷ ts) n k c b (l, u) ((row, at), rows) =
      distinct_append t.number (items_at h recs t.kind n c t) (items_behind n c b t ts) (by_line_lem t.kind n c t)
      (account_above ts (suc n) t.number _ _ u) (by_distinct t.kind n c t row at) (account_distinct ts (suc n) t.number _ _ u rows)

-- ---- the whole text

later_rising : (k : ℕ) (rs : List Numbered) → Rising k rs → (j : ℕ) × Rising j (later_in rs)
later_rising k [] u = (0, tt)
later_rising k (x ∷ rs) (l, u) = (x.number, u)

-- "Notes of one record never share part and voice", of an accepted text's note tokens
pub never_share : (text : List ℕ) (parts notes : ℕ) (rs : List Record) → read_text text ≡ accepted parts notes rs → Distinct (account text)
unfolding account account_by taken_of records_of
never_share text parts notes rs e =
    let u : (j : ℕ) × Rising j (later_of text) = later_rising 0 (records_of text) (rising 0 0 (lines_of text) (omega arith)) in
    account_distinct (header_of text) (paths_of text) (taken_of text) 0 u.0 0 false (taken_rising (later_of text) (length (header_of text)) u.0 u.1)
    (accepted_notes text parts notes rs e).rows

-- ---- the NOTEs of an accepted text

plays_share : (x y : Noted) (i j : Item) → Plays x i → Plays y j → NotesShare x y → Share i j
plays_share x y i j p q s = (sym p.line ∙ s.0 ∙ q.line, sym p.part ∙ s.1 ∙ q.part, sym p.voice ∙ s.2 ∙ q.voice)

agree_none : {x : Noted} {i : Item} {xs : List Noted} {is : List Item} → Plays x i → Agree xs is → SharesNone i is → NoneOf NotesShare x xs
agree_none p both_end n = tt
agree_none {x} {i} p (one_more {x = y} {i = j} q a) (f, n) = (λ s. f (plays_share x y i j p q s), agree_none p a n)

agree_apart : {xs : List Noted} {is : List Item} → Agree xs is → Distinct is → Apart NotesShare xs
agree_apart both_end d = tt
agree_apart (one_more p a) (n, d) = (agree_none p a n, agree_apart a d)

pub notes_never_share : (text : List ℕ) (parts notes : ℕ) (rs : List Record) → read_text text ≡ accepted parts notes rs
    → Apart NotesShare (notes_of rs)
notes_never_share text parts notes rs e = agree_apart (accepted_notes text parts notes rs e).agree (never_share text parts notes rs e)
