-- Demand 3: "a player holding only the sheet plays what the text says".
use Rattle.std.specs.Prelude.{◌≡◌, ℕ, List, length}
use Rattle.std.proofs.Math.Option.{Option, bind}
use Rattle.paths.specs.Trace.{Ending, end_part, MayEnd}
use Rattle.sheet.specs.Player.{head_of, sheet_notes}
use Rattle.account.specs.Account.{account_by, account}
use Rattle.account.specs.Agree.{Agree, Apart, NotesShare}
use Rattle.account.specs.Rows.{header_of, paths_of}

-- the text's bytes on the one side, the buffer's on the other
pub record Played (text buffer : List ℕ) : Type 0 where
  -- "as many NOTEs from byte 16 on as taken records have note tokens. The k-th NOTE has the part, voice, bar, line, column, pitches and length of
  -- the k-th note token by line, then column"
  pub notes : Agree (sheet_notes buffer) (account text)
  -- the head's count of notes
  pub count : (head_of buffer).notes ≡ length (account text)
  -- "Notes of one record never share part and voice."
  pub distinct : Apart NotesShare (sheet_notes buffer)
  -- "an accepted trace ends in the same part, or outside kern, whichever line of a join it follows": the NOTEs are those of every such trace, too.
  -- `ends n j` is the row and column, or none, where the trace may end of column j before the n-th later record, from 0.
  pub any_line : (ends : ℕ → ℕ → Option Ending) → ((n j : ℕ) → MayEnd (paths_of text) n j (ends n j)) →
      Agree (sheet_notes buffer) (account_by (λ n j. bind (ends n j) (end_part (header_of text) (paths_of text))) text)
