use Rattle.std.proofs.Common.{refl}
use Rattle.mac_sockets.specs.Entrance.{doors_of}
use Rattle.mac_daemon.proofs.DayLemmas.{accounts, same-day, works}
use Rattle.mac_daemon.proofs.HomeLemmas.{all_there}
use Rattle.mac_daemon.proofs.running.run_service.Goals as goal

pub unreachable-requires : goal.unreachable-requires
unreachable-requires g c =
    c.in_default.ensures.out.0 refl (all_there c.args.parts.workers c.in_ok-pool.pool c.run_loops-day.new.pool c.in_ok-pool.ensures.started c.run_loops-day.ensures.home)

pub returns : goal.returns
returns g c = record {
  served = same-day _ _ _ c.in_ok-day.day _ refl refl refl c.in_ok-day.ensures.day;
  accounted = accounts (doors_of c.args.parts.entrance) c.args.unstarted.register c.run_loops-day.new.register c.in_ok-day.day _ _ c.settle.result refl refl refl c.settle.ensures.admitted c.settle.ensures.gone
      c.args.unstarted.fresh.0 c.args.unstarted.fresh.1 c.in_ok-day.ensures.registered c.in_ok-day.ensures.admitted;
  worked = works _ _ _ _ c.in_ok-pool.ensures.started c.run_loops-day.ensures.home c.in-Ok.ensures.finished;
}
