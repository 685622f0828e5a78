-- A closing's BARs have room, and barlines keep the state good, with one closing more at most.
use mathlib.Core.Bool.{cond}
use mathlib.Core.List.{List, map}
use Prim.Native.Nat.{ℕ, ◌+◌, ◌<◌}
use native.Mathlib.Omega.{arith}
use lib.Dec.{eqb}
use Rattle.sheet.specs.Record.{BAR}
use Rattle.sheet.specs.Fits.{U8, U32, BarFits, Fits}
use Rattle.sheet.specs.declared.Bar.{Bar}
use Rattle.notation.specs.Barline.{barlines_of, barline_number}
use Rattle.notation.specs.declared.barline.Barline.{Barline}
use Rattle.notation.specs.declared.barline.Barline.TheVariants.{Normal, Double, Final, RepeatStart, RepeatEnd, Invisible}
use Rattle.reading.specs.State.{State, with_parts}
use Rattle.reading.specs.declared.Part.{Part}
use Rattle.reading.specs.Notices.{Token, quiet}
use Rattle.reading.specs.Bars.{any_noted, filled_meter, closed_bar, next_bar, closed_part, closing, left_anew, keep_left, deciding, close_with, read_bar}
use Rattle.fits.proofs.Each.{either, all_map}
use Rattle.fits.proofs.Good.{numbers, bar_fits, Good, Fine, PartGood, good_more, fine_quiet}

filled_fits : (b : Bar) (x number : ℕ) → U8 x → U8 (cond (eqb number 1) (filled_meter b x) x)
filled_fits b x number h = either U8 (eqb number 1) (filled_meter b x) x (either U8 (eqb b.numerator 0) 4 x (omega arith) h) h

closed_bar_lem : (right number : ℕ) (b : Bar) → U8 right → U32 number → BarFits b → BarFits (closed_bar right number b)
closed_bar_lem right number b r m f = let n = numbers f in bar_fits (record {
  part = n.part;
  right = r;
  left = n.left;
  clef = n.clef;
  numerator = filled_fits b b.numerator number n.numerator;
  denominator = filled_fits b b.denominator number n.denominator;
  symbol = n.symbol;
  key = either U8 (eqb number 1) 1 b.key (omega arith) n.key;
  fifths = n.fifths;
  mode = n.mode;
  tempo = n.tempo;
  number = m;
})

next_bar_lem : (p left : ℕ) → U8 p → U8 left → BarFits (next_bar p left)
next_bar_lem p left h k = bar_fits (record {
  part = h;
  right = omega arith;
  left = k;
  clef = omega arith;
  numerator = omega arith;
  denominator = omega arith;
  symbol = omega arith;
  key = omega arith;
  fifths = omega arith;
  mode = omega arith;
  tempo = omega arith;
  number = omega arith;
})

module _ (right left number : ℕ) (r : U8 right) (l : U8 left) (m : U32 number) where
  closed_part_lem : (p : Part) → PartGood p → PartGood (closed_part right left number p)
  closed_part_lem p g = record {
    named = g.named;
    name = g.name;
    short = g.short;
    mode = g.mode;
    current = next_bar_lem p.current.part left (numbers g.current).part l;
    first = either BarFits (eqb number 1) (closed_bar right number p.current) p.first (closed_bar_lem right number p.current r m g.current) g.first;
  }

  bar_record : (p : Part) → PartGood p → Fits (BAR (closed_bar right number p.current))
  bar_record p g = closed_bar_lem right number p.current r m g.current

pub fine_closing : {n : ℕ} (right left : ℕ) (st : State) → U8 right → U8 left → n < 134217728 → Good n st → Fine (n + 1) (closing right left st)
unfolding closing
fine_closing {n} right left st r l w g =
    let m : U32 (st.bars + 1) = omega (arith, g.bars) in
    record {
      state = record {
        row = g.row;
        parts =
            all_map PartGood PartGood (closed_part right left (st.bars + 1)) (closed_part_lem right left (st.bars + 1) r l m) st.parts g.parts;
        bars = omega (arith, g.bars);
        tempo = g.tempo;
        title = g.title;
        composer = g.composer;
        lyricist = g.lyricist;
      };
      records =
          all_map PartGood Fits (λ (p : Part). BAR (closed_bar right (st.bars + 1) p.current)) (bar_record right left (st.bars + 1) r l m) st.parts
          g.parts;
    }

left_anew_lem : (left : ℕ) → U8 left → (p : Part) → PartGood p → PartGood (left_anew left p)
left_anew_lem left l p g = let n = numbers g.current in record {
  named = g.named;
  name = g.name;
  short = g.short;
  mode = g.mode;
  current = bar_fits (record {
    part = n.part;
    right = n.right;
    left = l;
    clef = n.clef;
    numerator = n.numerator;
    denominator = n.denominator;
    symbol = n.symbol;
    key = n.key;
    fifths = n.fifths;
    mode = n.mode;
    tempo = n.tempo;
    number = n.number;
  });
  first = g.first;
}

good_left : {n : ℕ} (left : ℕ) (st : State) → U8 left → Good n st → Good n (keep_left left st)
unfolding keep_left
good_left {n} left st l g =
    either (Good n) (eqb left 0) st (with_parts st (map (left_anew left) st.parts)) g
    (record {
      row = g.row;
      parts = all_map PartGood PartGood (left_anew left) (left_anew_lem left l) st.parts g.parts;
      bars = g.bars;
      tempo = g.tempo;
      title = g.title;
      composer = g.composer;
      lyricist = g.lyricist;
    })

barline_fits : (b : Barline) → U8 (barline_number b)
barline_fits Normal = omega arith
barline_fits Double = omega arith
barline_fits Final = omega arith
barline_fits RepeatStart = omega arith
barline_fits RepeatEnd = omega arith
barline_fits Invisible = omega arith

fine_close : {n : ℕ} (right left : ℕ) (st : State) → U8 right → U8 left → n < 134217728 → Good n st → Fine (n + 1) (close_with right left st)
unfolding close_with
fine_close {n} right left st r l w g =
    either (Fine (n + 1)) (any_noted st.parts) (closing right left st) (quiet (keep_left left st)) (fine_closing right left st r l w g)
    (fine_quiet (good_more (omega arith) (good_left left st l g)))

pub fine_bar : {n : ℕ} (ts : List Token) (st : State) → n < 134217728 → Good n st → Fine (n + 1) (read_bar ts st)
unfolding read_bar
fine_bar ts st w g =
    let b = barlines_of (deciding st.row ts) in
    fine_close (barline_number b.right) (barline_number b.left) st (barline_fits b.right) (barline_fits b.left) w g
