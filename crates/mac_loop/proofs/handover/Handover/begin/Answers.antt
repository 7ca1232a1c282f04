use Rattle.std.proofs.Common.{◌∙◌}
use Rattle.mac_loop.proofs.AliveLemmas.{starts}
use Rattle.mac_loop.proofs.handover.Handover.begin.Goals as goal

pub invariant_of-result : goal.invariant_of-result
invariant_of-result g c = record {
  rests = starts c.in_ok-port.port c.args.rights.value c.new-2.result c.in_ok-port.ensures.0 c.in_ok-port.ensures.1 c.new-2.ensures;
  called = record { noted = c.admit-presence.ensures.who.noted; under = c.admit-presence.ensures.who.under ∙ c.deref.ensures };
}
