use Rattle.mac_plain.proofs.Pairs.{nothing_received}
use Rattle.mac_plain.proofs.round.visit.Goals as goal

pub returns-then-len-ge-ROUND_MAX-clause-receives : goal.returns-then-len-ge-ROUND_MAX-clause-receives
returns-then-len-ge-ROUND_MAX-clause-receives g c current =
    nothing_received g.P.Port.tells g.P.Port.taken g.P.Port.written current c.args.owner c.args.client.now c.args.intake.now.arena.items c.args.intake.now.requests.items

pub returns-then-not-may_read-clause-receives : goal.returns-then-not-may_read-clause-receives
returns-then-not-may_read-clause-receives g c current =
    nothing_received g.P.Port.tells g.P.Port.taken g.P.Port.written current c.args.owner c.args.client.now c.args.intake.now.arena.items c.args.intake.now.requests.items
