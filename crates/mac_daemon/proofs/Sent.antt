-- What the threads of a daemon are handed, type by type: a search through all of it at once gives up.
use denote.Param.Send.{IsSend, recorded_send, sendable, struct_send}
use denote.RattleType.{RattleType}
use denote.Struct.Declared.{shape}
use Rattle.std.proofs.Crossing.{Box-send, crosses}
use Rattle.std.specs.contracts.result.Result as Result
use Rattle.mac_board.proofs.follower.Followers.TheSendSync as followers
use Rattle.mac_daemon.proofs.fault.DaemonFault.TheSendSync as fault
use Rattle.mac_daemon.proofs.shared.DaemonShared.TheSendSync as shared
use Rattle.mac_daemon.specs.contracts.arrivals.Arrivals as Arrivals
use Rattle.mac_daemon.specs.contracts.unstarted.Unstarted as Unstarted
use Rattle.mac_daemon.specs.contracts.day.Day as Day
use Rattle.mac_daemon.specs.contracts.ended_loops.EndedLoops as EndedLoops
use Rattle.mac_daemon.specs.contracts.fault.DaemonFault as DaemonFault
use Rattle.mac_daemon.specs.contracts.running.ServiceParts as ServiceParts
use Rattle.mac_decide.proofs.job.Job.TheSendSync as job
use Rattle.mac_decide.proofs.rights.Rights.TheSendSync as rights
use Rattle.mac_decide.specs.contracts.job.Job as Job
use Rattle.mac_decide.specs.contracts.job.JobEq.TheImpl as job_eq
use Rattle.mac_decide.specs.contracts.job.JobPartialEq.TheImpl as job_partial_eq
use Rattle.mac_decide.specs.contracts.macaroons.Macaroons as Macaroons
use Rattle.mac_decide.specs.contracts.macaroons.MacaroonsService.TheImpl as service
use Rattle.mac_host.proofs.ending.DaemonEnd.TheSendSync as ending
use Rattle.mac_loop.proofs.Sent.{loop_sent, loops_sent, loops_shared, register_field_sent}
use Rattle.mac_loop.specs.contracts.outcomes.EndedLoop as EndedLoop
use Rattle.mac_loop.specs.contracts.outcomes.Outcomes as Outcomes
use Rattle.mac_loop.specs.contracts.register.Settled as Settled
use Rattle.mac_loop.specs.declared.register.Origin.{Ghosts}
use Rattle.mac_queue.proofs.desk.Desk.TheSendSync as desk
use Rattle.mac_queue.specs.contracts.desk.Desk as Desk
use Rattle.mac_sockets.proofs.entrance.Entrance.TheSendSync as entrance
use Rattle.mac_wire.proofs.reply.Reply.TheSendSync as reply
use Rattle.mac_wire.specs.contracts.reply.Reply as Reply

pub parts_sent : IsSend ServiceParts.the_row
parts_sent = search (sendable, crosses, entrance.the_field_send, rights.the_send, rights.the_sync, shared.the_send, shared.the_sync, followers.the_field_send, ending.the_send, ending.the_sync) depth 20

unstarted_field_sent : (O : RattleType) (origin : Ghosts O.Denot) → IsSend O → IsSend (Unstarted.the_field O origin).row
unstarted_field_sent O origin sent = struct_send (shape (Unstarted.the_type O origin))
    (search (sendable, crosses, loops_sent O origin sent, loops_shared O origin sent) depth 20, (search (sendable, crosses, Box-send _ (loop_sent O origin sent)) depth 20, (register_field_sent O origin sent, tt)))

pub unstarted_sent : (O : RattleType) (origin : Ghosts O.Denot) → IsSend O → IsSend (Unstarted.the_row O origin)
unstarted_sent O origin sent = recorded_send (Unstarted.the_field O origin).row _ _ (Unstarted.the_type O origin).to_one (unstarted_field_sent O origin sent)

pub desk_sent : IsSend (Desk.the_row Macaroons.the_row Job.the_row Reply.the_row service.ghosts job_eq.ghosts job_partial_eq.ghosts)
desk_sent = desk.the_send Macaroons.the_row Job.the_row Reply.the_row service.ghosts job_eq.ghosts job_partial_eq.ghosts job.the_send reply.the_send

pub desk_field_sent : IsSend (Desk.the_field Macaroons.the_row Job.the_row Reply.the_row service.ghosts job_eq.ghosts job_partial_eq.ghosts).row
desk_field_sent = desk.the_field_send Macaroons.the_row Job.the_row Reply.the_row service.ghosts job_eq.ghosts job_partial_eq.ghosts job.the_send reply.the_send

outcomes_field_sent : IsSend (Outcomes.the_field).row
outcomes_field_sent = search (sendable, crosses) depth 20

ended_field_sent : (O : RattleType) (origin : Ghosts O.Denot) → IsSend O → IsSend (EndedLoop.the_field O origin).row
ended_field_sent O origin sent = struct_send (shape (EndedLoop.the_type O origin)) (desk_field_sent, (outcomes_field_sent, (register_field_sent O origin sent, tt)))

pub ended_sent : (O : RattleType) (origin : Ghosts O.Denot) → IsSend O → IsSend (EndedLoop.the_row O origin)
ended_sent O origin sent = recorded_send (EndedLoop.the_field O origin).row _ _ (EndedLoop.the_type O origin).to_one (ended_field_sent O origin sent)

settled_field_sent : IsSend (Settled.the_field).row
settled_field_sent = search (sendable, crosses) depth 20

arrivals_field_sent : IsSend (Arrivals.the_field).row
arrivals_field_sent = search (sendable, crosses) depth 20

ended_loops_field_sent : IsSend (EndedLoops.the_field).row
ended_loops_field_sent = search (sendable, crosses) depth 20

day_field_sent : IsSend (Day.the_field).row
day_field_sent = search (sendable, crosses, arrivals_field_sent, ended_loops_field_sent, settled_field_sent) depth 20

day_sent : IsSend Day.the_row
day_sent = recorded_send (Day.the_field).row _ _ (Day.the_type).to_one day_field_sent

pub outcome_sent : IsSend (Result.the_row Day.the_row DaemonFault.the_row)
outcome_sent = search (sendable, crosses, day_sent, day_field_sent, fault.the_send, fault.the_field_send) depth 20
