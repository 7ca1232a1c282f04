use Rattle.std.proofs.Common.{◌+◌, length, ap, arith, length-drop}
use Rattle.mac_wire.specs.Frame.{told_length}
use Rattle.mac_wire.proofs.Wholes.{counted-next, counted-all}
use Rattle.mac_wire.proofs.whole.whole_frames.Goals as goal

pub loop-behind-preserved : goal.loop-behind-preserved
loop-behind-preserved c =
    let e = c.in-Some.ensures in (
      (let shorter = ap length e.1 in omega (arith, e.0, shorter, length-drop (4 + told_length c.loop-behind.rest.now) c.loop-behind.rest.now, c.loop-behind.invariant.0)),
      λ payloads fit begins. counted-next payloads c.args.bytes.now c.loop-behind.rest.now c.in-Some.behind.now c.loop-behind.count
          (c.loop-behind.invariant.1 payloads fit begins) e.0 e.1,
    )

pub returns : goal.returns
returns c payloads fit begins =
    counted-all payloads c.args.bytes.now c.loop-behind.rest.now c.loop-behind.count (c.loop-behind.invariant.1 payloads fit begins) c.in_default.ensures
