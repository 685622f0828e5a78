-- The records of an accepted text have room in the sheet, so the player finds them; their NOTEs are the text's note tokens.
use mathlib.Core.Path.{◌≡◌, refl, sym, ap, subst, ◌∙◌}
use Prim.Native.Nat.{ℕ, ◌+◌, ◌≤◌, ◌<◌, ◌^◌}
use native.Mathlib.Omega.{arith}
use mathlib.Core.Bool.{Bool, true, cond}
use mathlib.Core.List.{List, ◌++◌, append_assoc}
use lib.Dec.{leb}
use lib.ListN.{length, drop, get_or, length-append}
use borrow.Author.Tests.{le-leb}
use Rattle.slices.specs.Store.{stored}
use Rattle.sheet.specs.Record.{Record, head_bytes, records_bytes}
use Rattle.sheet.specs.Player.{head_of, notes_of, sheet_notes}
use Rattle.sheet.specs.Fits.{HeadFits}
use Rattle.sheet.specs.declared.Head.{Head}
use Rattle.sheet.proofs.HeadLaws.{head_length}
use Rattle.sheet.proofs.SheetLaws.{sheet_head, sheet_notes_lem}
use Rattle.reading.specs.Text.{accepted, read_text, sheet_bytes, buffer_of}
use Rattle.account.specs.Account.{account}
use Rattle.account.specs.Agree.{Agree, Apart, NotesShare}
use Rattle.account.proofs.Accepted.{accepted_notes}
use Rattle.account.proofs.Distinct.{notes_never_share}
use Rattle.account.proofs.JoinLaws.{any_line}
use Rattle.extent.specs.Extent.{Extent}
use Rattle.extent.proofs.TextLaws.{extent}
use Rattle.fits.proofs.Whole.{all_fit}
use Rattle.demand.specs.Played.{Played}

module _ (text old : List ℕ) (bytes : (i : ℕ) → get_or text i 0 < 2 ^ 8) (parts notes : ℕ) (rs : List Record) (is : read_text text ≡ accepted parts notes rs)
    (room : 16 + length (records_bytes rs) ≤ length old) where
  abbrev head : Head
  head = record { parts = parts; length = 16 + length (records_bytes rs); notes = notes }

  abbrev behind : List ℕ
  behind = drop (length (sheet_bytes parts notes rs)) old

  -- the buffer: head, records, old bytes
  in_buffer : buffer_of text old ≡ head_bytes head ++ (records_bytes rs ++ behind)
  unfolding buffer_of stored sheet_bytes
  in_buffer =
      let long : length (sheet_bytes parts notes rs) ≡ 16 + length (records_bytes rs)
      = length-append (head_bytes head) (records_bytes rs) ∙ ap (λ (n : ℕ). n + length (records_bytes rs)) (head_length head) in
      let fits : leb (length (sheet_bytes parts notes rs)) (length old) ≡ true
      = le-leb (length (sheet_bytes parts notes rs)) (length old) (omega arith) in
      let whole : buffer_of text old ≡ stored old (sheet_bytes parts notes rs) = rw is in
      whole
      ∙ ap (λ (t : Bool). cond t (sheet_bytes parts notes rs ++ behind) old) fits
      ∙ append_assoc (head_bytes head) (records_bytes rs) behind

  head_fits : HeadFits head
  head_fits =
      let e : Extent parts notes rs = extent text parts notes rs is in
      record { parts = omega (arith, e.parts_few); length = e.long; notes = omega (arith, e.notes_few) }

  plays : sheet_notes (buffer_of text old) ≡ notes_of rs
  plays = ap sheet_notes in_buffer ∙ sheet_notes_lem head rs behind head_fits (all_fit text bytes parts notes rs is) refl

  agrees : Agree (sheet_notes (buffer_of text old)) (account text)
  agrees = subst (λ ns. Agree ns (account text)) (sym plays) (accepted_notes text parts notes rs is).agree

  pub played : Played text (buffer_of text old)
  played = record {
    notes = agrees;
    count =
        ap (λ (b : List ℕ). (head_of b).notes) in_buffer
        ∙ ap (λ (h : Head). h.notes) (sheet_head head rs behind head_fits (all_fit text bytes parts notes rs is) refl)
        ∙ (accepted_notes text parts notes rs is).count;
    distinct = subst (λ ns. Apart NotesShare ns) (sym plays) (notes_never_share text parts notes rs is);
    any_line = λ ends may_end. subst (Agree (sheet_notes (buffer_of text old))) (sym (any_line text parts notes rs is ends may_end)) agrees;
  }
