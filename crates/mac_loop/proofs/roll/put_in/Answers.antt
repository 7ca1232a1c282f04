use Rattle.std.proofs.Common.{ap, ◌∙◌, ◌+◌, arith, refl}
use Rattle.std.specs.Arc.{arc_value}
use Rattle.mac_loop.specs.Roll.{unsent_held, unsent_of}
use Rattle.mac_loop.proofs.AliveLemmas.{begins}
use Rattle.mac_loop.proofs.BacklogLemmas.{comes, still}
use Rattle.mac_loop.proofs.RegisterLemmas.{calls}
use Rattle.mac_loop.proofs.RollLemmas.{comes-back, frees-slot, one_each, reserves-slot}
use Rattle.mac_loop.proofs.roll.put_in.Goals as goal

pub new-member-requires : goal.new-member-requires
new-member-requires g c =
    let same = ap (λ rights. arc_value rights) c.new-client.ensures.rights in
    record {
      lives = begins c.new-client.result c.args.client.port c.args.client.rights.value c.args.client.session same c.new-client.ensures.port c.new-client.ensures.stands c.args.client.rests;
      called = calls _ _ _ _ _ refl same c.args.client.called;
    }

pub returns-then-is_err-clause-back : goal.returns-then-is_err-clause-back
returns-then-is_err-clause-back g c =
    let reserved = c.in-Ok.ensures.lent in
    frees-slot one_each c.reserve.new.self c.release.new.self c.in-Ok.slot _ reserved.this c.release.ensures.free
    ∙ reserves-slot one_each c.args.connections.now.slots c.reserve.new.self c.in-Ok.slot _ c.in-Ok.ensures.free reserved

pub returns-then-is_err-clause-unsent : goal.returns-then-is_err-clause-unsent
returns-then-is_err-clause-unsent g c = λ is.
    let reserved = c.in-Ok.ensures.lent in
    still _ _ _ is
    (frees-slot unsent_of c.reserve.new.self c.release.new.self c.in-Ok.slot _ reserved.this c.release.ensures.free
    ∙ reserves-slot unsent_of c.args.connections.now.slots c.reserve.new.self c.in-Ok.slot _ c.in-Ok.ensures.free reserved)

pub returns-clause-put : goal.returns-clause-put
returns-clause-put g c =
    let reserved = c.in-Ok.ensures.lent in
    let same = reserves-slot one_each c.args.connections.now.slots c.reserve.new.self c.in-Ok.slot _ c.in-Ok.ensures.free reserved in
    comes-back one_each c.reserve.new.self c.put.new.self c.in-Ok.slot _ c.put.result c.put.ensures.lent c.put.ensures.held reserved.this
    ∙ ap (λ n. n + 1) same

pub returns-clause-unsent : goal.returns-clause-unsent
returns-clause-unsent g c = λ is.
    let reserved = c.in-Ok.ensures.lent in
    let same = reserves-slot unsent_of c.args.connections.now.slots c.reserve.new.self c.in-Ok.slot _ c.in-Ok.ensures.free reserved in
    let more = comes-back unsent_of c.reserve.new.self c.put.new.self c.in-Ok.slot _ c.put.result c.put.ensures.lent c.put.ensures.held reserved.this in
    comes _ _ _ _ (c.add.ensures (unsent_held c.args.connections.now.slots) is) (omega (arith, same, more))
