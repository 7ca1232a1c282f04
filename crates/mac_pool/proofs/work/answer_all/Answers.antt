use Rattle.std.proofs.Common.{length, arith, ap}
use Rattle.mac_pool.proofs.Parcels.{answers_long}
use Rattle.mac_pool.proofs.work.answer_all.Goals as goal

pub returns-in-Ok-clause-count : goal.returns-in-Ok-clause-count
returns-in-Ok-clause-count g c =
    let tickets = c.args.tickets.now.ok.0 in
    let parcels = c.answer_together.new.parcels.ok.0 in
    omega (arith, answers_long _ _ c.answer_together.ensures.answers, ap length c.in-Ok.ensures.parts)
