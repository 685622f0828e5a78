-- Star records keep the state good.
use mathlib.Core.Path.{◌≡◌, refl}
use mathlib.Core.Bool.{Bool, true, false}
use mathlib.Core.List.{List, [], ◌∷◌, map}
use Prim.Native.Nat.{ℕ, suc, ◌+◌, ◌-◌, ◌≤◌}
use native.Mathlib.Omega.{arith}
use lib.Dec.{eqb}
use lib.ListN.{length}
use borrow.Author.Tests.{ne_eqb}
use Rattle.sheet.specs.Fits.{All, U8, U16, U32, SpanFits, BarFits}
use Rattle.sheet.specs.declared.Bar.{Bar}
use Rattle.interpretation.specs.Interpretation.{interpretation_of}
use Rattle.interpretation.specs.declared.Interpretation.{Interpretation}
use Rattle.interpretation.specs.declared.Interpretation.TheVariants.{Nothing, Clef, Key, Meter, Symbol, Tempo, Name, ShortName, Mode}
use Rattle.interpretation.specs.Clef.{clef_number}
use Rattle.interpretation.specs.Key.{mode_number}
use Rattle.interpretation.specs.Meter.{symbol_number}
use Rattle.std.proofs.Common.{Ok, Err, unsigned_abs}
use Rattle.std.specs.Result.{MatchResult}
use lib.IntN.{ℤ, pos, negsuc}
use mir.Syntax.{w8}
use mir.Val.{of_z}
use Rattle.interpretation.specs.Unsupported.{notice_number, Says}
use Rattle.interpretation.proofs.Ranges.{Ranged, ranged}
use Rattle.paths.specs.declared.PathToken.{PathToken}
use Rattle.paths.specs.declared.PathToken.TheVariants.{Split, Join, Exchange, End, Add, Other}
use Rattle.paths.specs.Token.{path_token}
use Rattle.paths.specs.declared.Spine.{Spine}
use Rattle.paths.specs.declared.Spine.TheVariants.{Line, Branch, Outside}
use Rattle.paths.specs.Voices.{Outcome, next, mixed, voiceless, wide, step_row}
use Rattle.reading.specs.State.{State, Result, part_at}
use Rattle.reading.specs.declared.Part.{Part}
use Rattle.reading.specs.Notices.{Token, span_of_token}
use Rattle.reading.specs.Star.{with_clef, with_key, with_meter, with_symbol, with_bar_tempo, with_mode, barring, name_span, applied, heeded, interpret, column_by, paired, read_columns, to_row, read_star}
use Rattle.fits.proofs.Each.{either}
use Rattle.fits.proofs.Cuts.{TokenFits}
use Rattle.fits.proofs.Rows.{SpineFits, NextFits, step_fits}
use Rattle.fits.proofs.Good.{numbers, bar_fits, Good, Fine, FineStep, refuses, going, PartGood, span_fits, token_span, part_good, with_part_lem, fine_quiet, fine_after, fine_notify}

-- ---- what an interpretation sets in a part's bar

module _ (b : Bar) (f : BarFits b) where
  clef_fits : (c : ℕ) → U8 c → BarFits (with_clef b c)
  clef_fits c h = let n = numbers f in bar_fits (record {
    part = n.part;
    right = n.right;
    left = n.left;
    clef = h;
    numerator = n.numerator;
    denominator = n.denominator;
    symbol = n.symbol;
    key = n.key;
    fifths = n.fifths;
    mode = n.mode;
    tempo = n.tempo;
    number = n.number;
  })

  key_fits : (k m : ℕ) → U8 k → U8 m → BarFits (with_key b k m)
  key_fits k m h i = let n = numbers f in bar_fits (record {
    part = n.part;
    right = n.right;
    left = n.left;
    clef = n.clef;
    numerator = n.numerator;
    denominator = n.denominator;
    symbol = n.symbol;
    key = omega arith;
    fifths = h;
    mode = i;
    tempo = n.tempo;
    number = n.number;
  })

  meter_fits : (x y : ℕ) → U8 x → U8 y → BarFits (with_meter b x y)
  meter_fits x y h i = let n = numbers f in bar_fits (record {
    part = n.part;
    right = n.right;
    left = n.left;
    clef = n.clef;
    numerator = h;
    denominator = i;
    symbol = n.symbol;
    key = n.key;
    fifths = n.fifths;
    mode = n.mode;
    tempo = n.tempo;
    number = n.number;
  })

  symbol_fits : (s : ℕ) → U8 s → BarFits (with_symbol b s)
  symbol_fits s h = let n = numbers f in bar_fits (record {
    part = n.part;
    right = n.right;
    left = n.left;
    clef = n.clef;
    numerator = n.numerator;
    denominator = n.denominator;
    symbol = h;
    key = n.key;
    fifths = n.fifths;
    mode = n.mode;
    tempo = n.tempo;
    number = n.number;
  })

  tempo_fits : (t : ℕ) → U16 t → BarFits (with_bar_tempo b t)
  tempo_fits t h = let n = numbers f in bar_fits (record {
    part = n.part;
    right = n.right;
    left = n.left;
    clef = n.clef;
    numerator = n.numerator;
    denominator = n.denominator;
    symbol = n.symbol;
    key = n.key;
    fifths = n.fifths;
    mode = n.mode;
    tempo = h;
    number = n.number;
  })

  mode_fits : (m : ℕ) → U8 m → BarFits (with_mode b m)
  mode_fits m h = let n = numbers f in bar_fits (record {
    part = n.part;
    right = n.right;
    left = n.left;
    clef = n.clef;
    numerator = n.numerator;
    denominator = n.denominator;
    symbol = n.symbol;
    key = n.key;
    fifths = n.fifths;
    mode = either U8 (eqb b.key 1) m 0 h (omega arith);
    tempo = n.tempo;
    number = n.number;
  })

barring_good : (p : Part) (b : Bar) → BarFits b → PartGood p → PartGood (barring p b)
barring_good p b h g = record { named = g.named; name = g.name; short = g.short; mode = g.mode; current = h; first = g.first }

-- ---- interpretations

name_fits : {t : Token} → TokenFits t → SpanFits (name_span t)
name_fits {t} h = span_fits (t.at + 3) (length t.bytes - 3) (omega arith) (omega arith)

fifths_fit : (z : ℤ) → unsigned_abs z ≤ 7 → U8 (of_z w8 z)
fifths_fit (pos n) h = omega arith
fifths_fit (negsuc n) h = omega arith

plain_number : (m : ℕ) → (8 ≤ m) × (m ≤ 15) → U8 m × (eqb m 17 ≡ false)
plain_number m h = (omega arith, ne_eqb m 17 (λ e. omega arith))

module _ {n : ℕ} (k j : ℕ) (t : Token) (p : ℕ) (part : Part) (st : State) (l : U32 k) (c : U16 j) (f : TokenFits t) (h : PartGood part) (g : Good n st) where
  fine_applied : (i : Interpretation) → Ranged i → Fine n (applied i t p part st)
  fine_applied Nothing r = fine_quiet g
  fine_applied (Clef clef) r =
      fine_quiet (with_part_lem p (barring_good part (with_clef part.current (clef_number clef)) (clef_fits part.current h.current (clef_number clef) (omega arith)) h) g)
  fine_applied (Key fifths) r =
      fine_quiet
      (with_part_lem p
      (barring_good part (with_key part.current (of_z w8 fifths) part.mode) (key_fits part.current h.current (of_z w8 fifths) part.mode (fifths_fit fifths r) h.mode) h) g)
  fine_applied (Meter x y) r =
      fine_quiet
      (with_part_lem p (barring_good part (with_meter part.current x y) (meter_fits part.current h.current x y (omega arith) (omega arith)) h) g)
  fine_applied (Symbol s) r =
      fine_quiet (with_part_lem p (barring_good part (with_symbol part.current (symbol_number s)) (symbol_fits part.current h.current (symbol_number s) (omega arith)) h) g)
  fine_applied (Tempo bpm) r =
      let s = with_part_lem p (barring_good part (with_bar_tempo part.current bpm) (tempo_fits part.current h.current bpm (omega arith)) h) g in
      fine_quiet (record {
        row = s.row;
        parts = s.parts;
        bars = s.bars;
        tempo = either U16 (eqb st.tempo 0) bpm st.tempo (omega arith) g.tempo;
        title = s.title;
        composer = s.composer;
        lyricist = s.lyricist;
      })
  fine_applied Name r =
      fine_quiet
      (with_part_lem p (record {
        named = omega arith;
        name = name_fits f;
        short = h.short;
        mode = h.mode;
        current = h.current;
        first = h.first;
      }) g)
  fine_applied ShortName r =
      fine_quiet
      (with_part_lem p (record {
        named = h.named;
        name = h.name;
        short = name_fits f;
        mode = h.mode;
        current = h.current;
        first = h.first;
      }) g)
  fine_applied (Mode mode) r =
      fine_quiet
      (with_part_lem p (record {
        named = h.named;
        name = h.name;
        short = h.short;
        mode = omega arith;
        current = mode_fits part.current h.current (mode_number mode) (omega arith);
        first = h.first;
      }) g)

  fine_heeded : (says : Says) → MatchResult says Ranged (λ u. (8 ≤ notice_number u) × (notice_number u ≤ 15)) → Fine n (heeded says k j t p part st)
  fine_heeded (Ok what) r = fine_applied what r
  fine_heeded (Err why) r = fine_notify (notice_number why) k j (span_of_token t) (plain_number (notice_number why) r) l c (token_span f) g

module _ {n : ℕ} (k j : ℕ) (t : Token) (st : State) (l : U32 k) (c : U16 j) (f : TokenFits t) (g : Good n st) where
  fine_interpret : (s : Spine) → SpineFits s → Fine n (interpret s k j t st)
  fine_interpret (Line p v) h =
      fine_heeded k j t p (part_at st p) st l c f (part_good p h.0 g) g (interpretation_of t.bytes (part_at st p).noted)
      (ranged t.bytes (part_at st p).noted)
  fine_interpret (Branch p) h = fine_quiet g
  fine_interpret Outside h = fine_quiet g

  fine_column : (q : PathToken) (b : Bool) (s : Spine) → SpineFits s → Fine n (column_by q b s k j t st)
  fine_column Split b s h = fine_quiet g
  fine_column Join b s h = fine_quiet g
  fine_column Exchange true s h = fine_quiet g
  fine_column Exchange false s h = fine_interpret s h
  fine_column End b s h = fine_quiet g
  fine_column Add b s h = fine_notify 7 k j (span_of_token t) (omega arith, refl) l c (token_span f) g
  fine_column Other b s h = fine_interpret s h

fine_columns : {n : ℕ} (ps : List PathToken) (k i : ℕ) (row : List Spine) (ts : List Token) (st : State) → U32 k → i + length row ≤ 256
    → All SpineFits row → All TokenFits ts → Good n st → Fine n (read_columns ps k i row ts st)
unfolding read_columns
fine_columns ps k i [] ts st l w h f g = fine_quiet g
fine_columns ps k i (s ∷ row) [] st l w h f g = fine_quiet g
fine_columns ps k i (s ∷ row) (t ∷ ts) st l w h f g =
    fine_after (read_columns ps k (suc i) row ts)
    (fine_column k (i + 1) t st l (omega arith) f.0 g (path_token t.bytes) (paired ps i) s h.0)
    (λ x y. fine_columns ps k (suc i) row ts x l (omega arith) h.1 f.1 y)

to_row_lem : {n : ℕ} (k : ℕ) {r : Result} (o : Outcome) → Fine n r → NextFits o → FineStep n (to_row k r o)
to_row_lem k (next row) f h = let g = f.state in going (record {
  state = record {
    row = h;
    parts = g.parts;
    bars = g.bars;
    tempo = g.tempo;
    title = g.title;
    composer = g.composer;
    lyricist = g.lyricist;
  };
  records = f.records;
})
to_row_lem k (mixed c) f h = refuses
to_row_lem k (voiceless p) f h = refuses
to_row_lem k (wide m) f h = refuses

pub fine_star : {n : ℕ} (k : ℕ) (ts : List Token) (st : State) → U32 k → All TokenFits ts → Good n st → FineStep n (read_star k ts st)
unfolding read_star
fine_star k ts st l f g =
    to_row_lem k (step_row st.row (map (λ (t : Token). path_token t.bytes) ts))
    (fine_columns (map (λ (t : Token). path_token t.bytes) ts) k 0 st.row ts st l (omega (arith, g.row.few)) g.row.spines f g)
    (step_fits st.row (map (λ (t : Token). path_token t.bytes) ts) g.row.spines)
