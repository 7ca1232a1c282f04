use Rattle.std.proofs.Common.{refl}
use Rattle.mac_wire.specs.Reply.{payloads_from}
use Rattle.mac_wire.proofs.session.Session.new.Goals as goal

pub returns : goal.returns
unfolding payloads_from
returns c = record {
  came = (refl, refl, c.new.ensures.items);
  went = c.new-2.ensures;
  each = refl;
  counted = refl;
}
