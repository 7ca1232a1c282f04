use Rattle.std.proofs.Common.{refl}
use Rattle.mac_slots.specs.Slots.{Free}
use Rattle.mac_gate.proofs.GoingLemmas.{stay-left}
use Rattle.mac_gate.proofs.waiting.Waiting.release.Goals as goal

pub returns-in_default : goal.returns-in_default
returns-in_default c = stay-left c.args.self.now.connections.slots c.release.new.self c.args.slot Free _ refl c.release.ensures.free

pub returns : goal.returns
returns c = stay-left c.args.self.now.connections.slots c.release.new.self c.args.slot Free _ refl c.release.ensures.free
