-- What threads may hand one another: a list that only proofs read has no such proof of its own.
use denote.Param.Send.{IsSend, sendable}
use Rattle.std.proofs.Crossing.{crosses}
use Rattle.left_right.proofs.reader.Reader.TheSendSync as reader
use Rattle.mac_board.proofs.issue.Issue.TheSendSync as issue
use Rattle.mac_board.specs.contracts.follower.Follower as Follower
use Rattle.mac_board.specs.contracts.lookout.Lookout as Lookout
use Rattle.mac_keys.proofs.key_table.KeyTable.TheSendSync as table

pub lookout_field_sent : IsSend (Lookout.the_field).row
lookout_field_sent = search (sendable, crosses, reader.the_send, issue.the_sync) depth 20

pub follower_sent : IsSend Follower.the_row
follower_sent = search (sendable, crosses, lookout_field_sent, table.the_send, table.the_sync) depth 20

pub follower_field_sent : IsSend (Follower.the_field).row
follower_field_sent = search (sendable, crosses, lookout_field_sent, table.the_send, table.the_sync) depth 20
