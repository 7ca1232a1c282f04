use Rattle.std.proofs.Common.{◌≡◌, ap, ◌∙◌}
use Rattle.mac_loop.specs.Asks.{Home}
use Rattle.mac_queue.specs.Putting.{pass_of}
use Rattle.mac_daemon.proofs.HomeLemmas.{home_more, home_still}
use denote.Exit.{no}
use denote.Param.Send.{arg_send, copied_send, param_send}
use Rattle.std.proofs.Crossing.{Arc-send, Box-send}
use Rattle.mac_board.proofs.Sent.{follower_sent}
use Rattle.mac_daemon.proofs.Sent.{desk_sent, ended_sent}
use Rattle.mac_daemon.proofs.shared.DaemonShared.TheSendSync as shared
use Rattle.mac_loop.proofs.Sent.{loop_sent, loops_sent, loops_shared}
use Rattle.mac_sockets.proofs.Sent.{six_sent}
use Rattle.mac_daemon.proofs.running.start_loop.Goals as goal

pub spawn_with-requires-send-F : goal.spawn_with-requires-send-F
spawn_with-requires-send-F g c κs within = param_send _ _ (arg_send _ no _ (six_sent _ _ _ _ _ _ _ (Box-send _ (loop_sent _ _ c.type_bounds.send-O)) follower_sent desk_sent (copied_send _ _ c.type_bounds.send-R) (Arc-send _ (loops_sent _ _ c.type_bounds.send-O) (loops_shared _ _ c.type_bounds.send-O)) (Arc-send _ shared.the_send shared.the_sync)))

pub spawn_with-requires-send-T : goal.spawn_with-requires-send-T
spawn_with-requires-send-T g c κs within = param_send _ _ (arg_send _ no _ (ended_sent _ _ c.type_bounds.send-O))

pub returns-in-Err-clause-home : goal.returns-in-Err-clause-home
returns-in-Err-clause-home g c =
    let same : c.work-unused.result.desk.putter.number ≡ c.in_ok-desk.desk.putter.number = ap (λ (h : Home). h.number) c.work-unused.ensures ∙ ap (λ f. f.2.putter.number) c.in-Err.ensures.err in
    home_more c.args.pool.now c.desk.new.self c.desk.new.self c.home.new.self (pass_of c.in_ok-desk.desk.putter) (pass_of c.work-unused.result.desk.putter) c.in_ok-desk.ensures.desk.0 (home_still _) same c.home.ensures
