use denote.Exit.{no}
use denote.Param.Send.{arg_send, copied_send, param_send}
use Rattle.std.proofs.Crossing.{Arc-send, send}
use Rattle.mac_daemon.proofs.Sent.{unstarted_sent, outcome_sent, parts_sent}
use Rattle.mac_sockets.proofs.Sent.{five_sent}
use Rattle.mac_host.proofs.ending.DaemonEnd.TheSendSync as ending
use Rattle.mac_daemon.proofs.listening.start_thread.Goals as goal

pub spawn_with-requires-send-F : goal.spawn_with-requires-send-F
spawn_with-requires-send-F g c κs within = param_send _ _ (arg_send _ no _ (five_sent _ _ _ _ _ _ (copied_send _ _ c.type_bounds.send-R) send parts_sent (unstarted_sent _ _ c.type_bounds.send-O) (Arc-send _ ending.the_send ending.the_sync)))

pub spawn_with-requires-send-T : goal.spawn_with-requires-send-T
spawn_with-requires-send-T g c κs within = param_send _ _ (arg_send _ no _ outcome_sent)
