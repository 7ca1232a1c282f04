-- What threads may hand one another, type by type: a list that only proofs read has no such proof of
-- its own, and a search through a whole loop at once gives up.
use denote.Param.Send.{IsSend, IsSync, recorded_send, recorded_sync, sendable, struct_send, struct_sync}
use denote.RattleType.{RattleType}
use denote.Struct.Declared.{shape}
use Rattle.std.proofs.Crossing.{crosses}
use Rattle.atomic_table.proofs.shared.Seat.TheSendSync as seat
use Rattle.mac_decide.proofs.rights.Rights.TheSendSync as rights
use Rattle.mac_host.proofs.badge.Badge.TheSendSync as badge
use Rattle.mac_host.proofs.badge.Socket.TheSendSync as socket
use Rattle.mac_host.proofs.traffic.Traffic.TheSendSync as traffic
use Rattle.mac_loop.proofs.backlog.Backlog.TheSendSync as backlog
use Rattle.mac_loop.proofs.inbox.Displacing.TheSendSync as displacing
use Rattle.mac_loop.proofs.inbox.Stalest.TheSendSync as stalest
use Rattle.mac_loop.proofs.ledger.Ledger.TheSendSync as ledger
use Rattle.mac_loop.proofs.ledger.LedgerBook.TheSendSync as book
use Rattle.mac_loop.proofs.members.Note.TheSendSync as note
use Rattle.mac_loop.proofs.meter.Meter.TheSendSync as meter
use Rattle.mac_loop.proofs.meter.Shares.TheSendSync as shares
use Rattle.mac_loop.proofs.transcript.Transcript.TheSendSync as transcript
use Rattle.mac_loop.specs.declared.register.Origin.{Ghosts}
use Rattle.mac_loop.specs.contracts.batch.Batch as Batch
use Rattle.mac_loop.specs.contracts.handover.Handover as Handover
use Rattle.mac_loop.specs.contracts.inbox.LoopSide as LoopSide
use Rattle.mac_loop.specs.contracts.inbox.Loops as Loops
use Rattle.mac_loop.specs.contracts.looping.Loop as Loop
use Rattle.mac_loop.specs.contracts.ledger.LedgerEntry as LedgerEntry
use Rattle.mac_loop.specs.contracts.lent.Lent as Lent
use Rattle.mac_loop.specs.contracts.members.Member as Member
use Rattle.mac_loop.specs.contracts.outcomes.Leavers as Leavers
use Rattle.mac_loop.specs.contracts.port.SocketPort as SocketPort
use Rattle.mac_loop.specs.contracts.register.Admitted as Admitted
use Rattle.mac_loop.specs.contracts.register.Presence as Presence
use Rattle.mac_loop.specs.contracts.register.Register as Register
use Rattle.mac_loop.specs.contracts.roll.Roll as Roll
use Rattle.mac_plain.proofs.client.Client.TheSendSync as client
use Rattle.mac_plain.proofs.round.Round.TheSendSync as round
use Rattle.mac_sockets.proofs.account.BudgetAccount.TheSendSync as account
use Rattle.mac_sockets.proofs.connections.Connections.TheSendSync as connections
use Rattle.mac_sockets.proofs.inbox.Inbox.TheSendSync as inbox
use Rattle.mac_sockets.proofs.stream.Stream.TheSendSync as stream
use Rattle.mio.proofs.waker.Waker.TheSendSync as waker
use Rattle.mac_wire.proofs.session.Session.TheSendSync as session

pub port_sent : IsSend SocketPort.the_row
port_sent = search (sendable, crosses, transcript.the_send, stream.the_field_send, traffic.the_field_send) depth 20

pub port_field_sent : IsSend (SocketPort.the_field).row
port_field_sent = search (sendable, crosses, transcript.the_send, stream.the_field_send, traffic.the_field_send) depth 20

admitted_sent : IsSend Admitted.the_row
admitted_sent = search (sendable, crosses, socket.the_field_send) depth 20

admitted_shared : IsSync Admitted.the_row
admitted_shared = search (sendable, crosses, socket.the_field_sync) depth 20

entry_field_sent : IsSend (LedgerEntry.the_field Admitted.the_row).row
entry_field_sent = struct_send (shape (LedgerEntry.the_type Admitted.the_row)) (search (sendable, crosses, seat.the_send, admitted_sent) depth 20, (search (sendable, crosses) depth 20, tt))

presence_field_sent : (O : RattleType) (origin : Ghosts O.Denot) → IsSend O → IsSend (Presence.the_field O origin).row
presence_field_sent O origin sent = struct_send (shape (Presence.the_type O origin)) (entry_field_sent, (search (sendable, crosses, sent) depth 20, tt))

pub register_field_sent : (O : RattleType) (origin : Ghosts O.Denot) → IsSend O → IsSend (Register.the_field O origin).row
register_field_sent O origin sent = struct_send (shape (Register.the_type O origin))
    (search (sendable, crosses, ledger.the_send, ledger.the_sync, admitted_sent, admitted_shared) depth 20, (search (sendable, crosses, book.the_field_send, admitted_sent) depth 20, (search (sendable, crosses, sent) depth 20, tt)))

lent_field_sent : (O : RattleType) (origin : Ghosts O.Denot) → IsSend O → IsSend (Lent.the_field O origin).row
lent_field_sent O origin sent = struct_send (shape (Lent.the_type O origin))
    (search (sendable, crosses) depth 20, (search (sendable, crosses, note.the_field_send) depth 20, (presence_field_sent O origin sent, tt)))

pub lent_sent : (O : RattleType) (origin : Ghosts O.Denot) → IsSend O → IsSend (Lent.the_row O origin)
lent_sent O origin sent = recorded_send (Lent.the_field O origin).row _ _ (Lent.the_type O origin).to_one (lent_field_sent O origin sent)

leavers_field_sent : (O : RattleType) (origin : Ghosts O.Denot) → IsSend O → IsSend (Leavers.the_field O origin).row
leavers_field_sent O origin sent = struct_send (shape (Leavers.the_type O origin))
    (search (sendable, crosses) depth 20, (search (sendable, crosses) depth 20, (register_field_sent O origin sent, tt)))

handover_field_sent : (O : RattleType) (origin : Ghosts O.Denot) → IsSend O → IsSend (Handover.the_field O origin).row
handover_field_sent O origin sent = struct_send (shape (Handover.the_type O origin))
    (search (sendable, crosses, port_field_sent) depth 20, (search (sendable, crosses, session.the_field_send) depth 20, (search (sendable, crosses, rights.the_send, rights.the_sync) depth 20, (search (sendable, crosses) depth 20, (search (sendable, crosses) depth 20, (search (sendable, crosses, badge.the_field_send) depth 20, (search (sendable, crosses, socket.the_send) depth 20, (presence_field_sent O origin sent, tt))))))))

pub handover_sent : (O : RattleType) (origin : Ghosts O.Denot) → IsSend O → IsSend (Handover.the_row O origin)
handover_sent O origin sent = recorded_send (Handover.the_field O origin).row _ _ (Handover.the_type O origin).to_one (handover_field_sent O origin sent)

side_field_sent : (O : RattleType) (origin : Ghosts O.Denot) → IsSend O → IsSend (LoopSide.the_field O origin).row
side_field_sent O origin sent = struct_send (shape (LoopSide.the_type O origin))
    (search (sendable, crosses, inbox.the_field_send, handover_sent O origin sent) depth 20, (search (sendable, crosses) depth 20, (search (sendable, crosses, meter.the_field_send) depth 20, (search (sendable, crosses, stalest.the_field_send) depth 20, tt))))

pub side_sent : (O : RattleType) (origin : Ghosts O.Denot) → IsSend O → IsSend (LoopSide.the_row O origin)
side_sent O origin sent = recorded_send (LoopSide.the_field O origin).row _ _ (LoopSide.the_type O origin).to_one (side_field_sent O origin sent)

side_field_shared : (O : RattleType) (origin : Ghosts O.Denot) → IsSend O → IsSync (LoopSide.the_field O origin).row
side_field_shared O origin sent = struct_sync (shape (LoopSide.the_type O origin))
    (search (sendable, crosses, inbox.the_field_sync, handover_sent O origin sent) depth 20, (search (sendable, crosses) depth 20, (search (sendable, crosses, meter.the_field_sync) depth 20, (search (sendable, crosses, stalest.the_field_sync) depth 20, tt))))

pub side_shared : (O : RattleType) (origin : Ghosts O.Denot) → IsSend O → IsSync (LoopSide.the_row O origin)
side_shared O origin sent = recorded_sync (LoopSide.the_field O origin).row _ _ (LoopSide.the_type O origin).to_one (side_field_shared O origin sent)

loops_field_sent : (O : RattleType) (origin : Ghosts O.Denot) → IsSend O → IsSend (Loops.the_field O origin).row
loops_field_sent O origin sent = struct_send (shape (Loops.the_type O origin))
    (search (sendable, crosses, side_sent O origin sent) depth 20, (search (sendable, crosses) depth 20, (search (sendable, crosses) depth 20, (search (sendable, crosses, displacing.the_field_send) depth 20, (search (sendable, crosses) depth 20, (search (sendable, crosses) depth 20, (search (sendable, crosses) depth 20, (search (sendable, crosses) depth 20, tt))))))))

pub loops_sent : (O : RattleType) (origin : Ghosts O.Denot) → IsSend O → IsSend (Loops.the_row O origin)
loops_sent O origin sent = recorded_send (Loops.the_field O origin).row _ _ (Loops.the_type O origin).to_one (loops_field_sent O origin sent)

loops_field_shared : (O : RattleType) (origin : Ghosts O.Denot) → IsSend O → IsSync (Loops.the_field O origin).row
loops_field_shared O origin sent = struct_sync (shape (Loops.the_type O origin))
    (search (sendable, crosses, side_shared O origin sent) depth 20, (search (sendable, crosses) depth 20, (search (sendable, crosses) depth 20, (search (sendable, crosses, displacing.the_field_sync) depth 20, (search (sendable, crosses) depth 20, (search (sendable, crosses) depth 20, (search (sendable, crosses) depth 20, (search (sendable, crosses) depth 20, tt))))))))

pub loops_shared : (O : RattleType) (origin : Ghosts O.Denot) → IsSend O → IsSync (Loops.the_row O origin)
loops_shared O origin sent = recorded_sync (Loops.the_field O origin).row _ _ (Loops.the_type O origin).to_one (loops_field_shared O origin sent)

member_field_sent : (O : RattleType) (origin : Ghosts O.Denot) → IsSend O → IsSend (Member.the_field O origin).row
member_field_sent O origin sent = struct_send (shape (Member.the_type O origin))
    (search (sendable, crosses, client.the_field_send, port_sent) depth 20, (search (sendable, crosses, note.the_field_send) depth 20, (presence_field_sent O origin sent, tt)))

pub member_sent : (O : RattleType) (origin : Ghosts O.Denot) → IsSend O → IsSend (Member.the_row O origin)
member_sent O origin sent = recorded_send (Member.the_field O origin).row _ _ (Member.the_type O origin).to_one (member_field_sent O origin sent)

batch_field_sent : (O : RattleType) (origin : Ghosts O.Denot) → IsSend O → IsSend (Batch.the_field O origin).row
batch_field_sent O origin sent = struct_send (shape (Batch.the_type O origin))
    (search (sendable, crosses, client.the_send, client.the_field_send, port_sent) depth 20, (search (sendable, crosses, lent_sent O origin sent) depth 20, tt))

roll_field_sent : (O : RattleType) (origin : Ghosts O.Denot) → IsSend O → IsSend (Roll.the_field O origin).row
roll_field_sent O origin sent = struct_send (shape (Roll.the_type O origin))
    (search (sendable, crosses, connections.the_field_send, member_sent O origin sent) depth 20, (batch_field_sent O origin sent, (search (sendable, crosses, handover_sent O origin sent) depth 20, (search (sendable, crosses) depth 20, (search (sendable, crosses) depth 20, (leavers_field_sent O origin sent, (search (sendable, crosses, backlog.the_field_send) depth 20, tt)))))))

loop_field_sent : (O : RattleType) (origin : Ghosts O.Denot) → IsSend O → IsSend (Loop.the_field O origin).row
loop_field_sent O origin sent = struct_send (shape (Loop.the_type O origin))
    (search (sendable, crosses) depth 20, (search (sendable, crosses) depth 20, (roll_field_sent O origin sent, (search (sendable, crosses, waker.the_send) depth 20, (search (sendable, crosses) depth 20, (search (sendable, crosses, round.the_field_send) depth 20, (search (sendable, crosses) depth 20, (search (sendable, crosses, shares.the_field_send) depth 20, (search (sendable, crosses, account.the_field_send) depth 20, (search (sendable, crosses) depth 20, (search (sendable, crosses, backlog.the_field_send) depth 20, (search (sendable, crosses) depth 20, (search (sendable, crosses) depth 20, (search (sendable, crosses) depth 20, (search (sendable, crosses) depth 20, (search (sendable, crosses) depth 20, (search (sendable, crosses) depth 20, (search (sendable, crosses) depth 20, tt))))))))))))))))))

pub loop_sent : (O : RattleType) (origin : Ghosts O.Denot) → IsSend O → IsSend (Loop.the_row O origin)
loop_sent O origin sent = recorded_send (Loop.the_field O origin).row _ _ (Loop.the_type O origin).to_one (loop_field_sent O origin sent)
