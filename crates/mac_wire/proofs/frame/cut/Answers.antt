use Rattle.std.proofs.Common.{rules, ◌≡◌, ◌++◌, [], length, arith}
use Rattle.std.proofs.lemmas.Grind.{common_steps}
use Rattle.std.proofs.lemmas.List.{nil_from_length}
use Rattle.mac_wire.proofs.Cutting.{begins, holds_more, holds_nothing, is_open, is_oversize}
use Rattle.mac_wire.proofs.frame.cut.Goals as goal

pub loop-rest-init : goal.loop-rest-init
loop-rest-init c = (omega arith, λ unfinished. rw c.new-arrivals.ensures.items (begins c.args.held c.args.piece.now unfinished))

pub loop-rest-preserved-in-Unfinished : goal.loop-rest-preserved-in-Unfinished
loop-rest-preserved-in-Unfinished c =
    let a = rw c.in-Unfinished.is at c.in_ok-step.ensures in (
      omega (arith, c.loop-rest.invariant.0, a.some),
      λ unfinished.
          holds_more (c.args.held ++ c.args.piece.now) c.loop-rest.arrivals.items c.loop-rest.partial c.loop-rest.rest.now c.in-Unfinished.more
          c.in_ok-step.after.now (c.loop-rest.invariant.1 unfinished) a,
    )

pub loop-rest-preserved : goal.loop-rest-preserved
loop-rest-preserved c =
    let a = rw c.in-Whole.is at c.in_ok-step.ensures in (
      omega (arith, c.loop-rest.invariant.0, a.some),
      λ unfinished.
          let whole = holds_nothing (c.args.held ++ c.args.piece.now) c.loop-rest.arrivals.items c.loop-rest.partial c.loop-rest.rest.now c.in_ok-step.after.now
          c.in-Whole.payload.items (c.loop-rest.invariant.1 unfinished) a.taken a.parts a.makes in
          rw (c.in_ok-push-in-Whole.ensures.items, c.new.ensures, c.new-partial.ensures) whole,
    )

pub returns-in-TooLong-clause-cuts : goal.returns-in-TooLong-clause-cuts
returns-in-TooLong-clause-cuts c unfinished =
    let a = rw c.in-TooLong.is at c.in_ok-step.ensures in
    let long = is_oversize (c.args.held ++ c.args.piece.now) c.loop-rest.arrivals.items c.loop-rest.partial c.loop-rest.rest.now c.in_ok-step.after.now
    (c.loop-rest.invariant.1 unfinished) a.taken a.parts a.makes in
    rw c.in_ok-push-in-TooLong.ensures.items long

pub returns-clause-cuts : goal.returns-clause-cuts
returns-clause-cuts c unfinished =
    let short : length c.loop-rest.rest.now ≡ 0 = first_of (search rules, grind (arith, common_steps)) in
    let none : c.loop-rest.rest.now ≡ [] = nil_from_length c.loop-rest.rest.now short in
    is_open (c.args.held ++ c.args.piece.now) c.loop-rest.arrivals.items c.loop-rest.partial c.loop-rest.rest.now (c.loop-rest.invariant.1 unfinished) none
