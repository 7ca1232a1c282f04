use Rattle.mac_plain.proofs.World.{reached_by}
use Rattle.mac_plain.proofs.laws.rounds_are_events.Goals as goal

pub returns : goal.returns
returns c = reached_by
