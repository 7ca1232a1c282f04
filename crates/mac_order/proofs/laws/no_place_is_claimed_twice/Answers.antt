-- Neither comes after the other.
use Rattle.std.proofs.Common.{inl, inr, arith}
use Rattle.std.proofs.lemmas.Bool.{cases_lt}
use Rattle.mac_order.specs.State.{opening}
use Rattle.mac_order.proofs.Claims.{not_after}
use Rattle.mac_order.proofs.laws.no_place_is_claimed_twice.Goals as goal

pub returns : goal.returns
returns g c connections workers one other number place before after events first second =
    elim (cases_lt before after) [
      | inl less ↦ absurd (not_after g.S.Service.reply_to (opening connections workers) events before after one other number place less (record { event_is = first.0; outcome_is = first.1 }) (record { event_is = second.0; outcome_is = second.1 }))
      | inr least ↦ elim (cases_lt after before) [
        | inl more ↦ absurd (not_after g.S.Service.reply_to (opening connections workers) events after before other one number place more (record { event_is = second.0; outcome_is = second.1 }) (record { event_is = first.0; outcome_is = first.1 }))
        | inr most ↦ omega arith
      ]
    ]
