use Rattle.std.proofs.Common.{arith, refl}
use Rattle.mac_serve.proofs.Books.{all_there, whole_is}
use Rattle.mac_serve.proofs.whole.serve_all.Goals as goal

pub unreachable-requires : goal.unreachable-requires
unreachable-requires g c =
    let there = all_there c.args.workers c.in-Ok.pool c.seat_from-seated.new.pool c.in-Ok.ensures.started (omega (arith, c.if-workers-gt-WORKERS_MAX.false)) c.seat_from-seated.ensures.pool in
    c.in_default.ensures.out.0 refl there

pub returns-clause-whole : goal.returns-clause-whole
returns-clause-whole g c =
    whole_is _ c.args.workers c.args.callers.now c.seat_from-seated.new.callers c.in-Ok.pool c.seat_from-seated.new.pool c.in-Ok-finish.finished.workers c.in-Ok-finish.finished.tally
    c.in-Ok.ensures.started c.seat_from-seated.ensures.pool c.in_ok-seated.ensures.seated c.in-Ok-finish.ensures.finished
