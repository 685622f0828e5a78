-- Any record: what was written is read back, by its own length, and is bytes.
use mathlib.Core.Path.{◌≡◌, refl, sym, ap, ◌∙◌}
use Prim.Native.Nat.{ℕ, ◌≤◌}
use native.Mathlib.Omega.{arith}
use mathlib.Core.List.{List, [], ◌∷◌, ◌++◌, append_assoc}
use mathlib.Core.Option.{some}
use lib.ListN.{length}
use Rattle.sheet.specs.Record.{Record, NOTE, BAR, PART, END, NOTICE, record_bytes, records_bytes}
use Rattle.sheet.specs.Player.{record_length, record_at}
use Rattle.sheet.specs.Fits.{U8, All, Fits}
use Rattle.sheet.proofs.BytesLaws.{all_append}
use Rattle.sheet.proofs.NoteLaws.{NOTE_length, NOTE_back, NOTE_reads, NOTE_bytes}
use Rattle.sheet.proofs.BarLaws.{BAR_length, BAR_back, BAR_reads, BAR_bytes}
use Rattle.sheet.proofs.PartLaws.{PART_length, PART_back, PART_reads, PART_bytes}
use Rattle.sheet.proofs.EndLaws.{END_length, END_back, END_reads, END_bytes}
use Rattle.sheet.proofs.NoticeLaws.{NOTICE_length, NOTICE_back, NOTICE_reads, NOTICE_bytes}

pub record_long : (r : Record) → 20 ≤ length (record_bytes r)
record_long (NOTE n ps marks) = omega (arith, NOTE_length n ps marks)
record_long (BAR r) = omega (arith, BAR_length r)
record_long (PART p) = omega (arith, PART_length p)
record_long (END e) = omega (arith, END_length e)
record_long (NOTICE n extra) = omega (arith, NOTICE_length n extra)

pub decode_encode : (r : Record) → Fits r → (rest : List ℕ) → record_at (record_bytes r ++ rest) ≡ some r
decode_encode (NOTE n ps marks) f rest = NOTE_back f rest
decode_encode (BAR r) f rest = BAR_back f rest
decode_encode (PART p) f rest = PART_back f rest
decode_encode (END e) f rest = END_back f rest
decode_encode (NOTICE n extra) f rest = NOTICE_back f rest

pub decode_length : (r : Record) → Fits r → (rest : List ℕ) → record_length (record_bytes r ++ rest) ≡ length (record_bytes r)
decode_length (NOTE n ps marks) f rest = NOTE_reads f rest
decode_length (BAR r) f rest = BAR_reads r rest
decode_length (PART p) f rest = PART_reads p rest
decode_length (END e) f rest = END_reads e rest
decode_length (NOTICE n extra) f rest = NOTICE_reads f rest

pub record_bytes_lem : (r : Record) → Fits r → All U8 (record_bytes r)
record_bytes_lem (NOTE n ps marks) f = NOTE_bytes f
record_bytes_lem (BAR r) f = BAR_bytes f
record_bytes_lem (PART p) f = PART_bytes f
record_bytes_lem (END e) f = END_bytes f
record_bytes_lem (NOTICE n extra) f = NOTICE_bytes f

pub records_bytes_lem : (rs : List Record) → All Fits rs → All U8 (records_bytes rs)
unfolding records_bytes
records_bytes_lem [] f = f
records_bytes_lem (r ∷ rs) f = all_append U8 (record_bytes r) (records_bytes rs) (record_bytes_lem r f.0) (records_bytes_lem rs f.1)

pub records_append : (rs qs : List Record) → records_bytes (rs ++ qs) ≡ records_bytes rs ++ records_bytes qs
unfolding records_bytes
records_append [] qs = refl
records_append (r ∷ rs) qs =
    ap (λ (l : List ℕ). record_bytes r ++ l) (records_append rs qs) ∙ sym (append_assoc (record_bytes r) (records_bytes rs) (records_bytes qs))
