use Rattle.std.proofs.Common.{refl}
use Rattle.mac_loop.proofs.AliveLemmas.{rested-speaks}
use Rattle.mac_loop.proofs.RegisterLemmas.{calls}
use Rattle.mac_loop.proofs.ended.Leaver.on_the_way.Goals as goal

pub invariant_of-ended : goal.invariant_of-ended
invariant_of-ended g c =
    let it = c.args.client in
    record {
      said = rested-speaks it.rights.value it.port.came it.port.went it.session it.rests;
      all = λ none. absurd cc;
    }

pub invariant_of-result : goal.invariant_of-result
invariant_of-result g c = record {
  called = calls _ _ _ _ _ c.life-life.ensures refl c.args.client.called;
}
