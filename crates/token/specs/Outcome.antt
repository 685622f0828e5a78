-- What becomes of a token: nothing, a notice, or a note.
use Rattle.std.specs.Prelude.{ℕ, List, [], Bool, true, false, cond, eqb, Option, Some, None, Result, Ok, Err}
use Rattle.duration.specs.Ratio.{spelled_value}
use Rattle.duration.specs.declared.Value.{Value}
use Rattle.duration.specs.declared.Value.TheVariants.{Plain, Tuplet}
use Rattle.items.specs.Items.{items}
use Rattle.token.specs.Token.{rest_of, pitches_of, signifiers_of, is_bad}
use Rattle.token.specs.Scan.{scan_of}
use Rattle.token.specs.declared.scan.Scan.{Scan}
use Rattle.token.specs.declared.scan.Given.{Given}
use Rattle.token.specs.declared.scan.Given.TheVariants.{Nothing, NoValue, Length}
use Rattle.token.specs.declared.pitches.Tone.{Tone}
use Rattle.token.specs.declared.outcome.Note.{Note}
use Rattle.token.specs.declared.outcome.Unread.{Unread}
use Rattle.token.specs.declared.outcome.Unread.TheVariants.{BadLength, NoPitch, BadReciprocal, NoLength}

-- nothing, a note, or why there is none
abbrev pub Outcome : Type 0
Outcome = Result (Option Note) Unread

-- "16 `%` or repeated length", "18 no pitch, no rest", "19 reciprocal", "21 missing length"
abbrev pub notice_number : Unread → ℕ
notice_number BadLength = 16
notice_number NoPitch = 18
notice_number BadReciprocal = 19
notice_number NoLength = 21

-- a rest has no ties and no pitches
unfoldable pub note_of : Bool → ℕ → ℕ → ℕ → Scan → Note
note_of inferred value actual normal s =
    record {
      value = value;
      actual = actual;
      normal = normal;
      dots = s.dots;
      inferred = inferred;
      rest = s.rest;
      ties = cond s.rest false s.ties;
      tied = cond s.rest false s.tied;
      slurs = s.slurs;
      slurred = s.slurred;
      grace = s.grace;
      pitches = cond s.rest 0 s.pitches;
      articulations = s.articulations;
    }

abbrev pub noted_as : Bool → Value → Scan → Note
noted_as inferred (Plain value) s = note_of inferred value 0 0 s
noted_as inferred (Tuplet value actual normal) s = note_of inferred value actual normal s

-- a note of a value, or the notice where there is none
abbrev pub by_value : Unread → Bool → Option Value → Scan → Outcome
by_value why inferred None s = Err why
by_value why inferred (Some v) s = Ok (Some (noted_as inferred v s))

-- "19 reciprocal", or a note
abbrev pub noted : Option Value → Scan → Outcome
noted v s = by_value BadReciprocal false v s

-- "21 missing length", or a note with "20 inferred"
abbrev pub from_peers : Option Value → Scan → Outcome
from_peers v s = by_value NoLength true v s

-- a grace without digits is an eighth
unfoldable pub without_digits : Scan → Option Value → Outcome
without_digits s inferred = cond (eqb s.grace 0) (from_peers inferred s) (noted (Some (Plain 5)) s)

abbrev pub by_given : Given → Scan → Option Value → Outcome
by_given Nothing s inferred = without_digits s inferred
by_given NoValue s inferred = noted None s
by_given (Length v) s inferred = noted (Some v) s

abbrev pub measured : Scan → Option Value → Outcome
measured s inferred = by_given s.given s inferred

-- "16 `%` or repeated length"; "18 no pitch, no rest" is decided before the length
unfoldable pub outcome_of : Scan → Option Value → Outcome
outcome_of s inferred =
    cond s.silent (Ok None)
    (cond s.bad (Err BadLength)
    (cond s.rest (measured s inferred)
    (cond (eqb s.pitches 0) (Err NoPitch) (measured s inferred))))

-- a token, with the length that its peers give as they spell it, or none
abbrev pub read_token : List ℕ → List ℕ → Outcome
read_token token inferred = outcome_of (scan_of token) (spelled_value inferred)

-- "Only for 17 .. its bytes follow": the signifiers, of which a token with a bad length reports none
abbrev pub reported : List ℕ → List ℕ
reported token = cond (is_bad (items token)) [] (signifiers_of (items token))

-- the pitches of a token's note
abbrev pub note_pitches : List ℕ → List Tone
note_pitches token = cond (rest_of (items token)) [] (pitches_of (items token))
