use Rattle.std.proofs.Common.{rules, length}
use Rattle.std.proofs.lemmas.Bool.{le-leb, lt-leb}
use Rattle.mac_wire.specs.declared.arrival.TheConstants.{FRAME_MAX}
use Rattle.mac_commands.specs.Arrived.{arrival_of_payload}
use Rattle.mac_commands.proofs.arrived.make_arrival.Goals as goal

pub returns-then-len-le-FRAME_MAX : goal.returns-then-len-le-FRAME_MAX
unfolding arrival_of_payload
returns-then-len-le-FRAME_MAX c =
    let fits = le-leb (length c.args.payload.items) FRAME_MAX (search rules) in
    rw fits (search rules)

pub returns-else-len-le-FRAME_MAX : goal.returns-else-len-le-FRAME_MAX
unfolding arrival_of_payload
returns-else-len-le-FRAME_MAX c =
    let fails = lt-leb (length c.args.payload.items) FRAME_MAX (search rules) in
    rw fails
