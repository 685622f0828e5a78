-- Closings: each takes a BAR of every part, and has its note.
use mathlib.Core.Path.{◌≡◌, refl}
use Prim.Native.Nat.{ℕ, ◌+◌, ◌*◌}
use native.Mathlib.Omega.{arith}
use mathlib.Core.List.{List, [], ◌∷◌, map}
use mathlib.Core.Bool.{Bool, true, false, cond}
use lib.Dec.{eqb}
use lib.ListN.{length, length-append, length-map}
use Rattle.notation.specs.Barline.{barlines_of, barline_number}
use Rattle.sheet.specs.Record.{Record, BAR, record_bytes, records_bytes}
use Rattle.sheet.proofs.BarLaws.{BAR_length}
use Rattle.reading.specs.State.{State, with_parts}
use Rattle.reading.specs.declared.Part.{Part}
use Rattle.reading.specs.Notices.{Token, quiet}
use Rattle.reading.specs.Bars.{any_noted, closed_bar, closed_part, closing, left_anew, keep_left, deciding, close_with, read_bar}
use Rattle.extent.proofs.StateLaws.{Holds, After, quiet_holds, noted_map, parts_hold}
use Rattle.reading.proofs.StateLaws.{closed_noted}

-- a record of 20 bytes for each part
pub bytes_parts : (f : Part → Record) → ((p : Part) → length (record_bytes (f p)) ≡ 20) → (ps : List Part) → length (records_bytes (map f ps)) ≡ 20 * length ps
unfolding records_bytes
bytes_parts f e [] = refl
bytes_parts f e (p ∷ ps) = omega (arith, length-append (record_bytes (f p)) (records_bytes (map f ps)), e p, bytes_parts f e ps)

pub closing_holds : {b n : ℕ} (right left : ℕ) (st : State) → any_noted st.parts ≡ true → Holds b n st → After b n (closing right left st)
unfolding closing
closing_holds right left st e h =
    record {
      size =
          omega
          (arith, h.size, h.parts_few, bytes_parts (λ (p : Part). BAR (closed_bar right (st.bars + 1) p.current)) (λ (p : Part). BAR_length _) st.parts);
      notes_few = h.notes_few;
      notices_few = h.notices_few;
      parts_few = omega (arith, h.parts_few, length-map st.parts (closed_part right left (st.bars + 1)));
      closed = rw (closed_noted right left (st.bars + 1) st.parts) (omega (arith, rw e at h.closed));
    }

left_holds : {b n : ℕ} (left : ℕ) (st : State) → Holds b n st → Holds b n (keep_left left st)
unfolding keep_left
left_holds {b} {n} left st h = go (eqb left 0)
  where
    go : (t : Bool) → Holds b n (cond t st (with_parts st (map (left_anew left) st.parts)))
    go true = h
    go false =
        parts_hold (map (left_anew left) st.parts) (omega (arith, h.parts_few, length-map st.parts (left_anew left)))
        (noted_map (left_anew left) (λ (p : Part). refl) st.parts) h

close_holds : {b n : ℕ} (right left : ℕ) (st : State) → Holds b n st → After b n (close_with right left st)
unfolding close_with
close_holds {b} {n} right left st h = go (any_noted st.parts) refl
  where
    go : (t : Bool) → any_noted st.parts ≡ t → After b n (cond t (closing right left st) (quiet (keep_left left st)))
    go true e = closing_holds right left st e h
    go false e = quiet_holds (keep_left left st) (left_holds left st h)

pub bar_holds : {b n : ℕ} (ts : List Token) (st : State) → Holds b n st → After b n (read_bar ts st)
unfolding read_bar
bar_holds ts st h =
    let x = barlines_of (deciding st.row ts) in close_holds (barline_number x.right) (barline_number x.left) st h
