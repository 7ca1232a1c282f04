use Rattle.std.proofs.Common.{◌≡◌, length, map, rules, arith}
use Rattle.mac_decide.specs.Prepared.{comes_to}
use Rattle.mac_decide.proofs.SeenLemmas.{none-left}
use Rattle.mac_decide.proofs.side_by_side.prepare_all.Goals as goal

pub returns-clause-ready : goal.returns-clause-ready
returns-clause-ready c =
    let each : length c.loop-room.run.items ≡ length c.args.sights.now = search rules in
    let rest = c.loop-room.room-iterator.b.rest.now in
    let none : length rest ≡ 0 = omega (arith, each, c.loop-room.invariant.count) in
    none-left c.args.sights.now rest (map comes_to c.loop-room.run.items) none c.loop-room.invariant.ready
