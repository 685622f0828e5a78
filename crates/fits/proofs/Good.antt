-- The state between two lines: every number in it has room in the record that it may come into. Notices keep that.
use mathlib.Core.Path.{◌≡◌, refl}
use mathlib.Core.Bool.{Bool, true, false, cond}
use mathlib.Core.List.{List, [], ◌∷◌}
use Prim.Native.Nat.{ℕ, ◌+◌, ◌≤◌}
use native.Mathlib.Omega.{arith}
use lib.Dec.{eqb, ltb}
use lib.ListN.{length}
use Rattle.sheet.specs.Record.{NOTICE, span_of, extra_length}
use Rattle.sheet.specs.Fits.{All, U8, U16, U32, SpanFits, BarFits, NoticeFits, Fits}
use Rattle.sheet.specs.declared.Span.{Span}
use Rattle.sheet.specs.declared.Bar.{Bar}
use Rattle.sheet.specs.declared.Notice.{Notice}
use Rattle.reading.specs.State.{State, Result, Step, refused, goes, ends, empty, start, blank_bar, fresh_part, part_at, with_part, with_notices}
use Rattle.reading.specs.declared.Part.{Part}
use Rattle.reading.specs.Notices.{Token, span_of_token, quiet, after, keep, notify, notify_signifiers}
use Rattle.fits.proofs.Each.{all_append, all_get_d, all_set}
use Rattle.fits.proofs.Cuts.{TokenFits}
use Rattle.fits.proofs.Rows.{Room}
use Rattle.fits.proofs.Outcomes.{Plainly}

-- ---- spans

pub span_fits : (at len : ℕ) → U32 at → U32 len → SpanFits (span_of at len)
unfolding span_of
span_fits at len h k = go (eqb len 0)
  where
    go : (t : Bool) → SpanFits (cond t (record { at = 0; len = 0 }) (record { at = at; len = len }))
    go true = (omega arith, omega arith)
    go false = (h, k)

pub token_span : {t : Token} → TokenFits t → SpanFits (span_of_token t)
token_span {t} h = span_fits t.at (length t.bytes) (omega arith) (omega arith)

pub empty_fits : SpanFits empty
empty_fits = (omega arith, omega arith)

-- ---- bars

-- a bar's bytes one by one
pub record BarNumbers (b : Bar) : Type 0 where
  pub part : U8 b.part
  pub right : U8 b.right
  pub left : U8 b.left
  pub clef : U8 b.clef
  pub numerator : U8 b.numerator
  pub denominator : U8 b.denominator
  pub symbol : U8 b.symbol
  pub key : U8 b.key
  pub fifths : U8 b.fifths
  pub mode : U8 b.mode
  pub tempo : U16 b.tempo
  pub number : U32 b.number

pub numbers : {b : Bar} → BarFits b → BarNumbers b
numbers f = record {
  part = f.bytes.0;
  right = f.bytes.1.0;
  left = f.bytes.1.1.0;
  clef = f.bytes.1.1.1.0;
  numerator = f.bytes.1.1.1.1.0;
  denominator = f.bytes.1.1.1.1.1.0;
  symbol = f.bytes.1.1.1.1.1.1.0;
  key = f.bytes.1.1.1.1.1.1.1.0;
  fifths = f.bytes.1.1.1.1.1.1.1.1.0;
  mode = f.bytes.1.1.1.1.1.1.1.1.1.0;
  tempo = f.tempo;
  number = f.number;
}

pub bar_fits : {b : Bar} → BarNumbers b → BarFits b
bar_fits n = record {
  bytes = (n.part, (n.right, (n.left, (n.clef, (n.numerator, (n.denominator, (n.symbol, (n.key, (n.fifths, (n.mode, tt))))))))));
  tempo = n.tempo;
  number = n.number;
}

-- ---- parts and states

pub record PartGood (p : Part) : Type 0 where
  pub named : U8 p.named
  pub name : SpanFits p.name
  pub short : SpanFits p.short
  pub mode : U8 p.mode
  pub current : BarFits p.current
  pub first : BarFits p.first

-- n closings at most
pub record Good (n : ℕ) (st : State) : Type 0 where
  pub row : Room st.row
  pub parts : All PartGood st.parts
  pub bars : st.bars ≤ n
  pub tempo : U16 st.tempo
  pub title : SpanFits st.title
  pub composer : SpanFits st.composer
  pub lyricist : SpanFits st.lyricist

pub record Fine (n : ℕ) (r : Result) : Type 0 where
  pub state : Good n r.state
  pub records : All Fits r.records

pub data FineStep (n : ℕ) : Step → Type 0 where
  refuses : {a b c : ℕ} → FineStep n (refused a b c)
  going : {r : Result} → Fine n r → FineStep n (goes r)
  ending : {r : Result} → Fine n r → FineStep n (ends r)

pub good_start : Good 0 start
good_start = record {
  row = record { spines = tt; few = omega arith };
  parts = tt;
  bars = omega arith;
  tempo = omega arith;
  title = empty_fits;
  composer = empty_fits;
  lyricist = empty_fits;
}

pub good_more : {n m : ℕ} {st : State} → n ≤ m → Good n st → Good m st
good_more h g = record {
  row = g.row;
  parts = g.parts;
  bars = omega (arith, g.bars);
  tempo = g.tempo;
  title = g.title;
  composer = g.composer;
  lyricist = g.lyricist;
}

pub fine_more : {n m : ℕ} {r : Result} → n ≤ m → Fine n r → Fine m r
fine_more h f = record { state = good_more h f.state; records = f.records }

pub step_more : {n m : ℕ} {s : Step} → n ≤ m → FineStep n s → FineStep m s
step_more h refuses = refuses
step_more h (going f) = going (fine_more h f)
step_more h (ending f) = ending (fine_more h f)

blank_fits : (p : ℕ) → U8 p → BarFits (blank_bar p)
blank_fits p h = bar_fits (record {
  part = h;
  right = omega arith;
  left = omega arith;
  clef = omega arith;
  numerator = omega arith;
  denominator = omega arith;
  symbol = omega arith;
  key = omega arith;
  fifths = omega arith;
  mode = omega arith;
  tempo = omega arith;
  number = omega arith;
})

pub fresh_good : (p : ℕ) → U8 p → PartGood (fresh_part p)
fresh_good p h = record {
  named = omega arith;
  name = empty_fits;
  short = empty_fits;
  mode = omega arith;
  current = blank_fits p h;
  first = blank_fits p h;
}

pub part_good : {n : ℕ} {st : State} (p : ℕ) → U8 p → Good n st → PartGood (part_at st p)
part_good {n} {st} p h g = all_get_d PartGood st.parts p (fresh_part p) g.parts (fresh_good p h)

pub with_part_lem : {n : ℕ} {st : State} {part : Part} (p : ℕ) → PartGood part → Good n st → Good n (with_part st p part)
with_part_lem {n} {st} {part} p h g = record {
  row = g.row;
  parts = all_set PartGood st.parts p part g.parts h;
  bars = g.bars;
  tempo = g.tempo;
  title = g.title;
  composer = g.composer;
  lyricist = g.lyricist;
}

-- ---- results

pub fine_quiet : {n : ℕ} {st : State} → Good n st → Fine n (quiet st)
fine_quiet g = record { state = g; records = tt }

pub fine_after : {n m : ℕ} {r : Result} (f : State → Result) → Fine n r → ((s : State) → Good n s → Fine m (f s)) → Fine m (after r f)
fine_after {n} {m} {r} f h k =
    let l : Fine m (f r.state) = k r.state h.state in
    record { state = l.state; records = all_append Fits r.records (f r.state).records h.records l.records }

-- ---- notices

pub fine_keep : {n : ℕ} (notice : Notice) (bytes : List ℕ) {st : State} → NoticeFits notice bytes → Good n st → Fine n (keep notice bytes st)
unfolding keep
fine_keep {n} notice bytes {st} h g = go (ltb st.notices 1024)
  where
    go : (t : Bool) → Fine n (cond t (record { state = with_notices st (st.notices + 1); records = NOTICE notice bytes ∷ [] }) (quiet st))
    go true = record {
      state = record {
        row = g.row;
        parts = g.parts;
        bars = g.bars;
        tempo = g.tempo;
        title = g.title;
        composer = g.composer;
        lyricist = g.lyricist;
      };
      records = (h, tt);
    }
    go false = fine_quiet g

no_extra : (number column k : ℕ) (value key : Span) → eqb number 17 ≡ false
    → 0 ≡ extra_length (record { number = number; column = column; line = k; value = value; key = key })
unfolding extra_length
no_extra number column k value key e = rw e

pub plain_notice : (number column k : ℕ) (value key : Span) → Plainly number → U16 column → U32 k → SpanFits value → SpanFits key
    → NoticeFits (record { number = number; column = column; line = k; value = value; key = key }) []
plain_notice number column k value key p c l v w = record {
  byte = p.0;
  column = c;
  line = l;
  spans = (v, (w, tt));
  follows = no_extra number column k value key p.1;
  each_byte = tt;
}

pub fine_notify : {n : ℕ} (number k column : ℕ) (value : Span) {st : State} → Plainly number → U32 k → U16 column → SpanFits value → Good n st
    → Fine n (notify number k column value st)
unfolding notify
fine_notify number k column value p l c v g = fine_keep _ [] (plain_notice number column k value empty p c l v empty_fits) g

pub fine_signifiers : {n : ℕ} (k column : ℕ) (bytes : List ℕ) {st : State} → U32 k → U16 column → U32 (length bytes) → All U8 bytes → Good n st
    → Fine n (notify_signifiers k column bytes st)
unfolding notify_signifiers extra_length
fine_signifiers k column bytes l c long each g =
    fine_keep _ bytes
    (record {
      byte = omega arith;
      column = c;
      line = l;
      spans = ((omega arith, long), (empty_fits, tt));
      follows = refl;
      each_byte = each;
    })
    g
