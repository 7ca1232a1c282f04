use Rattle.std.proofs.Common.{ap}
use Rattle.mac_loop.specs.Asks.{Home}
use Rattle.mac_queue.specs.Putting.{pass_of}
use Rattle.mac_daemon.proofs.DayLemmas.{joined, one-popped}
use Rattle.mac_daemon.proofs.HomeLemmas.{home_more}
use Rattle.mac_daemon.proofs.running.+run_loops.Goals as goal

pub returns-clause-home : goal.returns-clause-home
returns-clause-home g t c =
    home_more c.args.pool.now c.start_loop.new.pool c.run_loops-day.new.pool c.home.new.self (pass_of c.in-Ok.thread.promise.0.value.putter) (pass_of c.join-desk.result.desk.putter) c.in-Ok.ensures.desk c.run_loops-day.ensures.home (ap (λ (h : Home). h.number) c.join-desk.ensures) c.home.ensures

pub returns-in_err-day-clause-home : goal.returns-in_err-day-clause-home
returns-in_err-day-clause-home g t c =
    home_more c.args.pool.now c.start_loop.new.pool c.run_loops-day.new.pool c.home.new.self (pass_of c.in-Ok.thread.promise.0.value.putter) (pass_of c.join-desk.result.desk.putter) c.in-Ok.ensures.desk c.run_loops-day.ensures.home (ap (λ (h : Home). h.number) c.join-desk.ensures) c.home.ensures

pub returns-clause-registered : goal.returns-clause-registered
returns-clause-registered g t c =
    joined c.args.register.now c.run_loops-day.new.register c.join.new.self c.join-desk.result.register c.in_ok-day.day c.add_loop.new.self c.join-desk.result.outcomes _ _
    c.in_ok-day.ensures.registered (one-popped _ _ _ _ c.pop.ensures.items c.in-Some.is) c.join-desk.result.gone c.join.ensures.ledger c.join.ensures.parts c.join.ensures.came c.join.ensures.went c.add_loop.ensures.arrivals c.add_loop.ensures.loops
