use Rattle.std.proofs.Common.{◌∙◌, ap}
use Rattle.mac_commands.specs.Arrived.{arrival_of, arrival_of_payload}
use Rattle.mac_commands.proofs.arrived.read_arrival.Goals as goal

pub returns : goal.returns
unfolding arrival_of
returns c = c.make_arrival.ensures ∙ ap arrival_of_payload c.in_ok-payload.ensures
