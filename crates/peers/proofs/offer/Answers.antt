-- The length at the front, if it has a value and nothing behind it is forbidden.
use mathlib.Core.Path.{◌∙◌, sym}
use Rattle.std.proofs.Common.{arith, eqb-true}
use Rattle.std.proofs.lemmas.Bool.{eqb-false}
use Rattle.peers.proofs.OfferLaws.{no_first, no_digit, piece_inside, Led, led, offer_whole, offer_forbids, offer_valueless, offer_some, offered}
use Rattle.peers.proofs.offer.Goals as goal
use Rattle.peers.proofs.offer.Goals.{After-split_at, then-is_empty-via-then-is_empty, then-is_empty-via-else-is_empty+then-forbids}

split : (c : After-split_at) → Led c.args.token.now c.split_at.result.0.now c.split_at.result.1.now
split c =
    let e = c.split_at.ensures in
    led _ c.in_ok-first.ensures.value (sym c.is_digit.ensures ∙ c.if-not-is_digit.false) c.length_end.ensures e.front e.back e.front_len e.back_len

pub returns-in_err-first : goal.returns-in_err-first
returns-in_err-first c = rw c.from_residual.ensures (no_first _ c.in_err-first.ensures.value)

pub returns-then-not-is_digit : goal.returns-then-not-is_digit
returns-then-not-is_digit c = no_digit _ c.in_ok-first.ensures.value (sym c.is_digit.ensures ∙ c.if-not-is_digit.true)

pub split_at-requires : goal.split_at-requires
split_at-requires c = omega (arith, c.length_end.ensures, piece_inside _ c.in_ok-first.ensures.value (sym c.is_digit.ensures ∙ c.if-not-is_digit.false))

pub returns-then-is_empty : goal.returns-then-is_empty
returns-then-is_empty c =
    let l = split (goal.at.returns-then-is_empty c).After-split_at in
    elim c.then-is_empty.branch [
      | then-is_empty-via-then-is_empty w ↦ offer_whole l (eqb-true _ _ (sym c.is_empty.ensures ∙ w.if-is_empty.true))
      | then-is_empty-via-else-is_empty+then-forbids w ↦ offer_forbids l (sym w.forbids.ensures ∙ w.if-forbids.true)
    ]

pub returns-in_err-spelled_value : goal.returns-in_err-spelled_value
returns-in_err-spelled_value c =
    rw c.from_residual-in_err-spelled_value.ensures
    (offer_valueless (split (goal.at.returns-in_err-spelled_value c).After-split_at) (sym c.spelled_value.ensures ∙ c.in_err-spelled_value.was))

pub invariant_of-result : goal.invariant_of-result
invariant_of-result c =
    record { offered = offered (split (goal.at.invariant_of-result c).After-split_at) (sym c.spelled_value.ensures ∙ c.in_ok-spelled_value.was) }

pub returns : goal.returns
returns c =
    offer_some (split (goal.at.returns c).After-split_at) (sym c.spelled_value.ensures ∙ c.in_ok-spelled_value.was) (sym c.forbids.ensures ∙ c.if-forbids.false)
    (eqb-false _ _ (sym c.is_empty.ensures ∙ c.if-is_empty.false))
