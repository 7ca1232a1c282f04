-- What the thread of a loop is handed, type by type: a list that only proofs read has no such proof of
-- its own, and a search through all of it at once gives up.
use mathlib.Core.List.{[], ◌∷◌}
use mir.Syntax.{Sym}
use denote.RattleType.{RattleType}
use denote.Param.Send.{IsSend, IsSync, sendable}
use denote.Param.SendFields.{as_row_send, declared_send}
use denote.Struct.Field.{row_field}
use denote.Struct.Tuple.{TupleAt, type_at}
use Rattle.std.proofs.Crossing.{crosses}
use Rattle.std.specs.contracts.snapshot.Snapshot as Snapshot
use Rattle.mac_board.proofs.Sent.{follower_sent}
use Rattle.http_server.proofs.connection.Connection.TheSendSync as machine
use Rattle.mac_decide.proofs.rights.Rights.TheSendSync as rights
use Rattle.mac_gate.proofs.gathering.Gathered.TheSendSync as gathered
use Rattle.mac_gate.proofs.note.HttpNote.TheSendSync as note
use Rattle.mac_gate.proofs.terms.HttpTerms.TheSendSync as terms
use Rattle.mac_gate.proofs.turns.Turns.TheSendSync as turns
use Rattle.mac_gate.proofs.waiting.PutOff.TheSendSync as put_off
use Rattle.mac_gate.specs.contracts.connection.HttpConnection as HttpConnection
use Rattle.mac_gate.specs.contracts.flow.Flow as Flow
use Rattle.mac_gate.specs.contracts.looping.HttpLoop as HttpLoop
use Rattle.mac_gate.specs.contracts.offer.AddressTerms as AddressTerms
use Rattle.mac_gate.specs.contracts.offer.Offer as Offer
use Rattle.mac_gate.specs.contracts.waiting.Waiting as Waiting
use Rattle.mac_page.proofs.site.Site.TheSendSync as site
use Rattle.mac_sockets.proofs.account.BudgetAccount.TheSendSync as account
use Rattle.mac_sockets.proofs.connections.Connections.TheSendSync as connections
use Rattle.mac_sockets.proofs.stream.Stream.TheSendSync as stream

pub own_field_sent : IsSend (AddressTerms.the_field).row
own_field_sent = search (sendable, crosses, terms.the_field_send, rights.the_field_send) depth 20

pub own_field_shared : IsSync (AddressTerms.the_field).row
own_field_shared = search (sendable, crosses, terms.the_field_sync, rights.the_field_sync) depth 20

pub offer_sent : IsSend Offer.the_row
offer_sent = search (sendable, crosses, own_field_sent, site.the_field_send) depth 20

pub offer_shared : IsSync Offer.the_row
offer_shared = search (sendable, crosses, own_field_shared, site.the_field_sync) depth 20

pub flow_field_sent : IsSend (Flow.the_field).row
flow_field_sent = search (sendable, crosses, gathered.the_field_send) depth 20

pub connection_sent : IsSend HttpConnection.the_row
connection_sent = search (sendable, crosses, flow_field_sent, offer_sent, offer_shared, machine.the_field_send, note.the_field_send, stream.the_field_send) depth 20

pub waiting_field_sent : IsSend (Waiting.the_field).row
waiting_field_sent = search (sendable, crosses, connection_sent, connections.the_field_send, account.the_field_send, turns.the_send, put_off.the_send) depth 20

pub loop_sent : IsSend HttpLoop.the_row
loop_sent = search (sendable, crosses, waiting_field_sent, follower_sent, offer_sent, offer_shared) depth 20

-- of a thread's values each is sent: a search through a closure gives up
pub four_sent : (ν : Sym) (A B C D : RattleType) → IsSend A → IsSend B → IsSend C → IsSend D → IsSend (TupleAt ν (A ∷ B ∷ C ∷ D ∷ []))
four_sent ν A B C D a b c d = declared_send (type_at ν (A ∷ B ∷ C ∷ D ∷ [])) (as_row_send (row_field A) a, (as_row_send (row_field B) b, (as_row_send (row_field C) c, (as_row_send (row_field D) d, tt))))

-- what is no value but tells of one
snapshot_sent : (Y : RattleType) → IsSend (Snapshot.the_row Y)
snapshot_sent Y = search (sendable, crosses) depth 20

pub loop_end_sent : IsSend (Snapshot.the_row HttpLoop.the_row)
loop_end_sent = snapshot_sent HttpLoop.the_row
