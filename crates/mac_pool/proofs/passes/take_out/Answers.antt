use Rattle.std.proofs.Common.{Some, Option, set, ap, sym, ◌∙◌, arith}
use Rattle.mac_queue.specs.Pass.{Pass}
use Rattle.mac_pool.proofs.Slots.{get_read, get_below}
use Rattle.mac_pool.proofs.passes.take_out.Goals as goal

pub index_mut-requires : goal.index_mut-requires
index_mut-requires g c =
    let below = get_below c.args.slots.now.items c.args.number _ c.requires.home.1 in
    let len = c.args.slots.now.ok.0 in
    omega arith

pub unreachable-requires : goal.unreachable-requires
unreachable-requires g c =
    let home = c.requires.home.1 in
    let slots = c.args.slots.now.items in
    let none = get_read slots c.args.number c.index_mut.result.now c.index_mut.ensures.value (get_below slots c.args.number _ home) ∙ ap Some (sym c.take.ensures.value ∙ c.in-None.is) in
    absurd (cc (home, none))

pub returns-clause-was : goal.returns-clause-was
returns-clause-was g c =
    let slots = c.args.slots.now.items in
    get_read slots c.args.number c.index_mut.result.now c.index_mut.ensures.value (get_below slots c.args.number _ c.requires.home.1)
    ∙ ap Some (sym c.take.ensures.value ∙ c.in-Some.is)

pub returns-clause-out : goal.returns-clause-out
returns-clause-out g c = ap (λ (slot : Option (Pass g.row.S-Job.Denot)). set c.args.slots.now.items c.args.number slot) c.take.ensures.after
