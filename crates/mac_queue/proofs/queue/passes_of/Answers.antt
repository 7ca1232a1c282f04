use Rattle.std.proofs.Common.{◌≡◌, ◌-◌, ◌+◌, [], arith, rules, refl, ap, ◌∙◌}
use Rattle.mac_queue.specs.Mail.{Mail}
use Rattle.mac_queue.specs.Balance.{account}
use Rattle.mac_queue.specs.declared.queue.account.Account.{Account}
use Rattle.mac_queue.specs.declared.queue.TheConstants.{PASSES}
use Rattle.mac_queue.proofs.Balance.{cuts}
use Rattle.mac_queue.proofs.Passes.{fresh_push}
use Rattle.mac_queue.proofs.queue.passes_of.Goals as goal

pub another-seat-requires-clause-rule : goal.another-seat-requires-clause-rule
another-seat-requires-clause-rule g c =
    let rest = c.loop-number.invariant.rest in
    cuts _ _ (rw rest (omega arith)) (rw rest refl) (rw rest refl)

pub loop-number-preserved : goal.loop-number-preserved
loop-number-preserved g c =
    let rest = c.loop-number.invariant.rest in
    let cut = c.another-seat.ensures.rule in
    let queue = c.another-seat.ensures.queue.1.0 in
    let fewer : PASSES - c.loop-number.number - 1 ≡ PASSES - (c.loop-number.number + 1) = omega arith in
    record {
      seat = search rules;
      rest = cut.0 ∙ ap (λ (a : Account g.row.S-Job.Denot Mail). account (a.parts - 1) [] []) rest ∙ ap (λ n. account n [] []) fewer;
      count = search rules;
      below = omega arith;
      fresh = rw c.in_ok-push.ensures.items (fresh_push _ _ _ _ c.loop-number.invariant.fresh c.loop-number.invariant.count record {
        queue_is = queue;
        number_is = refl;
        put_is = ap (λ (a : Account g.row.S-Job.Denot Mail). a.put) cut.1;
        claimed_is = ap (λ (a : Account g.row.S-Job.Denot Mail). a.claimed) cut.1;
      });
    }

pub returns-clause-fresh : goal.returns-clause-fresh
returns-clause-fresh g c =
    let rest = c.loop-number.invariant.rest in
    let last : c.loop-number.number ≡ PASSES - 1 = omega arith in
    rw c.in_ok-push-2.ensures.items (fresh_push _ _ _ _ c.loop-number.invariant.fresh (c.loop-number.invariant.count ∙ last) record {
      queue_is = c.loop-number.invariant.seat.0;
      number_is = refl;
      put_is = ap (λ (a : Account g.row.S-Job.Denot Mail). a.put) rest;
      claimed_is = ap (λ (a : Account g.row.S-Job.Denot Mail). a.claimed) rest;
    })
