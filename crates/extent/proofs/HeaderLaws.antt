-- Reference records and the header.
use mathlib.Core.Path.{◌≡◌, refl}
use Prim.Native.Nat.{ℕ, suc, ◌+◌, ◌≤◌}
use native.Mathlib.Omega.{arith}
use mathlib.Core.List.{List, [], ◌∷◌, map}
use mathlib.Core.Bool.{Bool, true, false, cond, not}
use lib.Dec.{ltb}
use lib.ListN.{length, drop, length-map}
use borrow.Author.Tests.{ltb-false}
use Rattle.lines.specs.Tokens.{tokens_of, is_kern, is_exclusive}
use Rattle.reference.specs.Reference.{reference_of}
use Rattle.reference.specs.declared.Key.{Key}
use Rattle.reference.specs.declared.Key.TheVariants.{Title, Composer, Lyricist, Other}
use Rattle.paths.specs.Text.{header_row}
use Rattle.repair.specs.Repair.{each}
use Rattle.sheet.specs.declared.Span.{Span}
use Rattle.sheet.specs.Record.{records_bytes}
use Rattle.reading.specs.State.{State, refused, goes, with_row, with_parts}
use Rattle.reading.specs.Notices.{Token, placed, span_of_token, after, notify}
use Rattle.reading.specs.Header.{by_key, key_span, value_span, read_reference, notice_others, fresh_parts, any_kern, read_header}
use Rattle.extent.proofs.StateLaws.{either, Holds, After, Passes, widen, quiet_holds, after_holds, keep_holds, notify_holds}
use Rattle.reading.proofs.StateLaws.{fresh_noted}

key_holds : {b n : ℕ} (x : Key) (k : ℕ) (value key : Span) (st : State) → Holds b n st → After b n (by_key x k value key st)
key_holds Title k value key st h = quiet_holds st h
key_holds Composer k value key st h = quiet_holds st h
key_holds Lyricist k value key st h = quiet_holds st h
key_holds Other k value key st h = widen (omega arith) (omega arith) (keep_holds _ [] st h)

pub reference_holds : {b n : ℕ} (k at : ℕ) (line : List ℕ) (st : State) → Holds b n st → After b n (read_reference k at line st)
unfolding read_reference
reference_holds k at line st h =
    let r = reference_of (drop 3 line) in key_holds r.key k (value_span (at + 3) r) (key_span (at + 3) r) st h

-- ---- the header
others_hold : {b n : ℕ} (k j : ℕ) (ts : List Token) (st : State) → Holds b n st → After b n (notice_others k j ts st)
unfolding notice_others
others_hold k j [] st h = quiet_holds st h
others_hold {b} {n} k j (t ∷ ts) st h =
    let r = notify 2 k j (span_of_token t) st in
    either (After b n) (is_kern t.bytes) (notice_others k (suc j) ts st) (after r (notice_others k (suc j) ts)) (others_hold k (suc j) ts st h)
    (after_holds n r (notice_others k (suc j) ts) (others_hold {b = b} {n = n + length (records_bytes r.records)} k (suc j) ts r.state (notify_holds 2 k j (span_of_token t) st h)))

fresh_few : (p : ℕ) (ks : List Bool) → length (fresh_parts p ks) ≤ length ks
unfolding fresh_parts
fresh_few p [] = omega arith
fresh_few p (true ∷ ks) = omega (arith, fresh_few (suc p) ks)
fresh_few p (false ∷ ks) = omega (arith, fresh_few p ks)

-- "Has the header at most 256 tokens?"
pub header_holds : {b n : ℕ} (k at : ℕ) (line : List ℕ) (st : State) → Holds b n st → Passes b n (read_header k at line st)
unfolding read_header
header_holds {b} {n} k at line st h = go (not (each is_exclusive ts)) (ltb 256 (length ts)) (not (any_kern ks)) refl
  where
    ts : List (List ℕ)
    ts = tokens_of line

    ks : List Bool
    ks = map is_kern ts

    begun : State
    begun = with_parts (with_row st (header_row ks)) (fresh_parts 0 ks)

    held : length ts ≤ 256 → Holds b n begun
    held few = record {
      size = h.size;
      notes_few = h.notes_few;
      notices_few = h.notices_few;
      parts_few = omega (arith, fresh_few 0 ks, length-map ts is_kern);
      closed = rw (fresh_noted 0 ks) (omega (arith, h.closed));
    }

    go : (x y z : Bool) → ltb 256 (length ts) ≡ y
        → Passes b n (cond x (refused 3 k 0) (cond y (refused 4 k (length ts)) (cond z (refused 5 k 0) (goes (notice_others k 1 (placed at ts) begun)))))
    go true y z e = tt
    go false true z e = tt
    go false false true e = tt
    go false false false e = others_hold k 1 (placed at ts) begun (held (ltb-false 256 (length ts) e))
