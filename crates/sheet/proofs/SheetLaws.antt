-- The whole sheet: the player walks it record by record and finds the records that were written.
use mathlib.Core.Path.{◌≡◌, refl, ap, ◌∙◌}
use Prim.Native.Nat.{ℕ, zero, suc, ◌+◌, ◌-◌, ◌≤◌}
use native.Mathlib.Nat.{not-suc-le-zero}
use native.Mathlib.Omega.{arith}
use mathlib.Core.List.{List, [], ◌∷◌, ◌++◌}
use mathlib.Core.Option.{some}
use lib.ListN.{length, drop, length-append}
use lib.Seq.{take_at, drop_at, drop-append_seam}
use Rattle.sheet.specs.Record.{Record, head_bytes, record_bytes, records_bytes}
use Rattle.sheet.specs.Player.{kind_of, head_of, record_length, record_by, record_at, walk, body_of, sheet_records, notes_of, sheet_notes}
use Rattle.sheet.specs.Fits.{All, HeadFits, Fits}
use Rattle.sheet.specs.declared.Head.{Head}
use Rattle.sheet.proofs.HeadLaws.{head_length, head_back}
use Rattle.sheet.proofs.RecordLaws.{record_long, decode_encode, decode_length}

walk_end : (n : ℕ) → walk n [] ≡ []
unfolding kind_of record_by record_at walk
walk_end zero = refl
walk_end (suc n) = refl

walk_more : (n : ℕ) (r : Record) (s rest : List ℕ) → record_at s ≡ some r → drop (record_length s) s ≡ rest → walk (suc n) s ≡ r ∷ walk n rest
unfolding walk
walk_more n r s rest e d = rw (e, walk) (rw d)

-- each record is 20 bytes or more, so as much fuel as bytes is enough
pub walk_records : (rs : List Record) → All Fits rs → (n : ℕ) → length (records_bytes rs) ≤ n → walk n (records_bytes rs) ≡ rs
unfolding records_bytes
walk_records [] f n h = walk_end n
walk_records (r ∷ rs) f zero h = absurd (not-suc-le-zero {n = 0} (omega (arith, record_long r, length-append (record_bytes r) (records_bytes rs))))
walk_records (r ∷ rs) f (suc n) h =
    walk_more n r (record_bytes r ++ records_bytes rs) (records_bytes rs) (decode_encode r f.0 (records_bytes rs))
    (rw (decode_length r f.0 (records_bytes rs)) (drop-append_seam (record_bytes r) (records_bytes rs)))
    ∙ ap (λ (l : List Record). r ∷ l)
    (walk_records rs f.1 n (omega (arith, record_long r, length-append (record_bytes r) (records_bytes rs))))

-- the sheet's bytes in a buffer: the player finds the head and the records, whatever stands behind them
module _ (h : Head) (rs : List Record) (old : List ℕ) (hf : HeadFits h) (rf : All Fits rs) (long : h.length ≡ 16 + length (records_bytes rs)) where
  abbrev buffer : List ℕ
  buffer = head_bytes h ++ (records_bytes rs ++ old)

  pub sheet_head : head_of buffer ≡ h
  sheet_head = head_back hf (records_bytes rs ++ old)

  body_here : body_of buffer ≡ records_bytes rs
  unfolding body_of
  body_here =
      let n : length (records_bytes rs) ≡ h.length - 16 = omega arith in
      rw (sheet_head, drop_at (head_bytes h) (records_bytes rs ++ old) 16 (head_length h)) (take_at (records_bytes rs) old (h.length - 16) n)

  pub sheet_records_lem : sheet_records buffer ≡ rs
  unfolding sheet_records
  sheet_records_lem = rw body_here (walk_records rs rf (length (records_bytes rs)) (omega arith))

  pub sheet_notes_lem : sheet_notes buffer ≡ notes_of rs
  unfolding sheet_notes
  sheet_notes_lem = ap notes_of sheet_records_lem
