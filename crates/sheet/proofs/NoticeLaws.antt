-- NOTICE: its length, its bytes, and the NOTICE that the player reads back with the bytes that follow.
use mathlib.Core.Path.{◌≡◌, refl}
use Prim.Native.Nat.{ℕ, ◌+◌}
use native.Mathlib.Omega.{arith}
use mathlib.Core.List.{List, ◌++◌, append_assoc}
use mathlib.Core.Option.{some}
use lib.ListN.{length, take, drop, length-append}
use lib.Seq.{take-append_seam, drop_at}
use Rattle.sheet.specs.Record.{NOTICE, notice_bytes, extra_length, record_bytes}
use Rattle.sheet.specs.Player.{kind_of, notice_at, is_notice, length_by, record_length, record_by, record_at}
use Rattle.sheet.specs.Fits.{U8, All, NoticeFits}
use Rattle.sheet.specs.declared.Notice.{Notice}
use Rattle.sheet.proofs.BytesLaws.{back2, back4, all_append}

pub notice_length : (n : Notice) → length (notice_bytes n) ≡ 24
unfolding notice_bytes
notice_length n = refl

pub NOTICE_length : (n : Notice) (extra : List ℕ) → length (record_bytes (NOTICE n extra)) ≡ 24 + length extra
unfolding record_bytes
NOTICE_length n extra = omega (arith, length-append (notice_bytes n) extra, notice_length n)

-- the kind is that of a NOTICE, whatever follows
notice_kind : (n : Notice) (rest : List ℕ) → record_at (notice_bytes n ++ rest) ≡ record_by is_notice (notice_bytes n ++ rest)
unfolding notice_bytes kind_of record_at
notice_kind n rest = refl

notice_kind_length : (n : Notice) (rest : List ℕ) → record_length (notice_bytes n ++ rest) ≡ length_by is_notice (notice_bytes n ++ rest)
unfolding notice_bytes kind_of record_length
notice_kind_length n rest = refl

module _ {n : Notice} {extra : List ℕ} (f : NoticeFits n extra) (rest : List ℕ) where
  together : record_bytes (NOTICE n extra) ++ rest ≡ notice_bytes n ++ (extra ++ rest)
  unfolding record_bytes
  together = append_assoc (notice_bytes n) extra rest

  notice_here : notice_at (notice_bytes n ++ (extra ++ rest)) ≡ n
  unfolding notice_bytes notice_at
  notice_here =
      rw (
        back2 f.column,
        back4 f.line,
        back4 f.spans.0.0,
        back4 f.spans.0.1,
        back4 f.spans.1.0.0,
        back4 f.spans.1.0.1,
      )

  extra_here : take (extra_length n) (drop 24 (notice_bytes n ++ (extra ++ rest))) ≡ extra
  extra_here = rw (drop_at (notice_bytes n) (extra ++ rest) 24 (notice_length n), ← f.follows) (take-append_seam extra rest)

  pub NOTICE_back : record_at (record_bytes (NOTICE n extra) ++ rest) ≡ some (NOTICE n extra)
  unfolding record_by
  NOTICE_back = rw (together, notice_kind n (extra ++ rest), notice_here, extra_here)

  pub NOTICE_reads : record_length (record_bytes (NOTICE n extra) ++ rest) ≡ length (record_bytes (NOTICE n extra))
  unfolding length_by
  NOTICE_reads =
      let e : record_length (record_bytes (NOTICE n extra) ++ rest) ≡ 24 + extra_length n =
      rw (together, notice_kind_length n (extra ++ rest), notice_here) in
      omega (arith, NOTICE_length n extra, f.follows)

notice_bytes_lem : {n : Notice} {extra : List ℕ} → NoticeFits n extra → All U8 (notice_bytes n)
unfolding notice_bytes
notice_bytes_lem f = omega arith

pub NOTICE_bytes : {n : Notice} {extra : List ℕ} → NoticeFits n extra → All U8 (record_bytes (NOTICE n extra))
unfolding record_bytes
NOTICE_bytes {n} {extra} f = all_append U8 (notice_bytes n) extra (notice_bytes_lem f) f.each_byte
