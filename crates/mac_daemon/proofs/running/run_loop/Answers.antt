use denote.Param.Send.{sendable}
use Rattle.std.proofs.Crossing.{crosses}
use Rattle.mac_board.proofs.Sent.{follower_sent, follower_field_sent}
use Rattle.mac_daemon.proofs.running.run_loop.Goals as goal

pub run-requires-send-K : goal.run-requires-send-K
run-requires-send-K g c κs within = search (sendable, crosses, c.type_bounds.sync-R, follower_sent, follower_field_sent) depth 20
