use Rattle.std.proofs.Common.{◌<◌, Some, length, ap, ◌∙◌, arith}
use Rattle.mac_pool.proofs.Slots.{get_read, out_next}
use Rattle.mac_pool.proofs.passes.first_home.Goals as goal

pub loop-number-init : goal.loop-number-init
loop-number-init g c = λ number least under. absurd (omega arith)

pub index-requires : goal.index-requires
index-requires g c =
    let len = c.args.slots.now.ok.0 in
    let within = c.requires.1 in
    let below = c.loop-number-test.true in
    omega arith

pub returns-in-Some : goal.returns-in-Some
returns-in-Some g c =
    let test = c.loop-number-test.true in
    let within = c.requires.1 in
    let below : c.loop-number.number < length c.args.slots.now.items = omega arith in
    (c.loop-number.auto.number, test, (c.in-Some.field-0, get_read c.args.slots.now.items c.loop-number.number c.index.result.now c.index.ensures below ∙ ap Some c.in-Some.is))

pub loop-number-preserved : goal.loop-number-preserved
loop-number-preserved g c =
    let test = c.loop-number-test.true in
    let within = c.requires.1 in
    let below : c.loop-number.number < length c.args.slots.now.items = omega arith in
    out_next c.args.slots.now.items c.args.from c.loop-number.number
    (get_read c.args.slots.now.items c.loop-number.number c.index.result.now c.index.ensures below ∙ ap Some c.in-None.is)
    c.loop-number.invariant

pub returns : goal.returns
returns g c = let end = c.loop-number-test.false in λ number least under. c.loop-number.invariant number least (omega arith)
