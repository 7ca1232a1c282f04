use denote.Exit.{no}
use denote.Param.Send.{arg_send, copied_send, param_send}
use Rattle.std.proofs.Crossing.{Arc-send, send}
use Rattle.mac_gate.proofs.Sent.{four_sent, loop_end_sent, loop_sent}
use Rattle.mac_gate.proofs.shared.Shared.TheSendSync as shared
use Rattle.mac_gate.proofs.looping.HttpLoop.start.Goals as goal

pub spawn_with-requires-send-F : goal.spawn_with-requires-send-F
spawn_with-requires-send-F g c κs within = param_send _ _ (arg_send _ no _ (four_sent _ _ _ _ _ loop_sent (copied_send _ _ c.type_bounds.send-R) send (Arc-send _ shared.the_send shared.the_sync)))

pub spawn_with-requires-send-T : goal.spawn_with-requires-send-T
spawn_with-requires-send-T g c κs within = param_send _ _ (arg_send _ no _ loop_end_sent)
