use Rattle.std.proofs.Common.{◌-◌, length, rules, refl, sym, subst, ℕ, List}
use Rattle.mac_wire.specs.Cut.{IsFront}
use Rattle.mac_wire.proofs.Lists.{take-rest}
use Rattle.mac_wire.specs.declared.arrival.TheConstants.{FRAME_MAX}
use Rattle.mac_plain.specs.Receiving.{CutsTo}
use Rattle.mac_plain.specs.declared.request.RoundRequest.{RoundRequest}
use Rattle.mac_plain.proofs.Requests.{cuts_begin, cuts_next}
use Rattle.mac_plain.proofs.receiving.cut_requests.Goals as goal

pub loop-payload-init : goal.loop-payload-init
loop-payload-init c = cuts_begin c.args.arena.now c.args.from c.args.owner c.args.requests.now.items c.requires

pub loop-payload-preserved : goal.loop-payload-preserved
loop-payload-preserved c =
    let end = length c.args.arena.now - length c.in-Whole.rest.now in
    let start = end - length c.in-Whole.payload.now in
    subst (λ (l : List RoundRequest). CutsTo c.args.arena.now c.args.from end c.args.owner c.args.requests.now.items l) (sym c.in_ok-push-in-Whole.ensures.items)
    (cuts_next c.args.arena.now c.args.from c.loop-payload.at end start c.args.owner c.args.requests.now.items c.loop-payload.requests.items
    c.in-Whole.payload.now c.in-Whole.rest.now c.loop-payload.invariant
    (subst (λ (l : List ℕ). IsFront FRAME_MAX l c.in-Whole.payload.now c.in-Whole.rest.now) (take-rest c.args.arena.now c.loop-payload.at) c.in-Whole.ensures) (search rules) refl refl)
