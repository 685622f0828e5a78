-- What the lists of a token of the usual shape are.
use mathlib.Core.Path.{◌≡◌, refl, ap}
use Prim.Native.Nat.{ℕ}
use mathlib.Core.Bool.{Bool, true, false, cond}
use mathlib.Core.List.{List, [], ◌∷◌}
use lib.ListN.{length}
use Rattle.std.specs.Prelude.{None}
use Rattle.token.specs.Outcome.{note_pitches}
use Rattle.token.proofs.AccountLaws.{Listed}
use Rattle.plain.specs.Plain.{PlainToken}
use Rattle.plain.specs.declared.Plain.{Plain}
use Rattle.writing.specs.Kept.{Alone}
use Rattle.token.proofs.AccountLaws.{heard_lists}

module _ {token : List ℕ} {p : Plain} (plain : PlainToken token p) where
  pub plain_lists : Listed token p.note
  plain_lists = heard_lists token None refl (plain.outcome None)

  pub plain_alone : Alone token p.tone
  plain_alone some = by_rest p.note.rest plain.pitches
    where
      by_rest : (b : Bool) → note_pitches token ≡ cond b [] (p.tone ∷ []) → note_pitches token ≡ p.tone ∷ []
      by_rest true e = absurd (some (ap length e))
      by_rest false e = e
