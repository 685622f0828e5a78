-- What the number in the reader's answer says.
use mathlib.Core.Path.{◌≡◌, refl, sym, ap, subst, ◌∙◌}
use Prim.Native.Nat.{ℕ, ◌<◌, ◌^◌}
use native.Mathlib.Omega.{arith}
use mathlib.Core.Bool.{Bool, true, false, cond}
use mathlib.Core.List.{List}
use lib.Dec.{leb}
use lib.ListN.{length, get_or}
use borrow.Author.Tests.{leb-true}
use Rattle.sheet.specs.Record.{Record}
use Rattle.reading.specs.Text.{Answer, refusal, accepted, read_text, sheet_bytes, answered, answer_of, buffer_of}
use Rattle.demand.specs.Played.{Played}
use Rattle.demand.proofs.PlayedLaws.{played}
use Rattle.demand.proofs.NumberLaws.{refusal_number, refusal_not_13}
use Rattle.extent.proofs.TextLaws.{sheet_length}
use Rattle.kern_ffi.specs.Answer.{number_of, figure_of, three_of, numbers_in}
use Rattle.reader.proofs.AnswerLaws.{sheet_long}
use Rattle.account.specs.Reached.{Question8, Question17}
use Rattle.account.proofs.Question.{question_8, question_17}

-- 0 is an acceptance's number alone, and 13 has the length that is needed
abbrev Tells : List ℕ → List ℕ → ℕ × ℕ × ℕ → Type 0
Tells text old a = (number_of a ≡ 0 → Played text (buffer_of text old)) × (number_of a ≡ 13 → figure_of a < 2 ^ 32)

module _ (text old : List ℕ) (bytes : (i : ℕ) → get_or text i 0 < 2 ^ 8) where
  tells_room : (parts notes : ℕ) (rs : List Record) → read_text text ≡ accepted parts notes rs → (t : Bool)
      → leb (length (sheet_bytes parts notes rs)) (length old) ≡ t
      → Tells text old (cond t (0, 0, length (sheet_bytes parts notes rs)) (13, 0, length (sheet_bytes parts notes rs)))
  tells_room parts notes rs is true e = (
    λ z. played text old bytes parts notes rs is (omega (arith, leb-true (length (sheet_bytes parts notes rs)) (length old) e, sheet_long parts notes rs)),
    λ z. sheet_length text parts notes rs is,
  )
  tells_room parts notes rs is false e = (λ z. absurd (omega arith), λ z. sheet_length text parts notes rs is)

  tells_of : (a : Answer) → read_text text ≡ a → Tells text old (answered a (length old))
  tells_of (refusal n l f) e =
      (λ z. absurd (omega (arith, (refusal_number text n l f e).0)), λ z. absurd (refusal_not_13 text n l f e z))
  tells_of (accepted parts notes rs) e = tells_room parts notes rs e (leb (length (sheet_bytes parts notes rs)) (length old)) refl

  tells : Tells text old (answer_of text old)
  unfolding answer_of
  tells = tells_of (read_text text) refl

-- all that the contract says, of the three numbers
abbrev pub Answers : List ℕ → List ℕ → List ℕ → List ℕ → ℕ → Type 0
Answers text old now-out three r = record {
  number : r ≡ number_of (answer_of text old);
  answer : three ≡ three_of (answer_of text old);
  buffer : now-out ≡ buffer_of text old;
  played : r ≡ 0 → Played text now-out;
  needed : r ≡ 13 → figure_of (answer_of text old) < 2 ^ 32;
  stopped : Question8 text (numbers_in three);
  joined : Question17 text (numbers_in three);
}

pub answers : (text old now-out three : List ℕ) → ((i : ℕ) → get_or text i 0 < 2 ^ 8) → {a : ℕ × ℕ × ℕ} {r : ℕ} → a ≡ answer_of text old → r ≡ number_of a → three ≡ three_of a
    → now-out ≡ buffer_of text old → Answers text old now-out three r
answers text old now-out three bytes {a} {r} e n t b =
    let said = tells text old bytes in
    let number : r ≡ number_of (answer_of text old) = n ∙ ap number_of e in
    let given : numbers_in three ≡ answer_of text old = ap numbers_in t ∙ e in
    record {
      number = number;
      answer = t ∙ ap three_of e;
      buffer = b;
      played = λ z. subst (Played text) (sym b) (said.0 (sym number ∙ z));
      needed = λ z. said.1 (sym number ∙ z);
      stopped = subst (Question8 text) (sym given) (question_8 text old);
      joined = subst (Question17 text) (sym given) (question_17 text old);
    }
