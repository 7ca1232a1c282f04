use Rattle.std.proofs.Common.{◌≡◌, ◌+◌, ◌++◌, List}
use Rattle.std.specs.VecDeque.{deque_len, deque_capacity}
use Rattle.mac_queue.specs.declared.ticket.Ticket.{Ticket}
use Rattle.mac_pool.specs.Parcel.{AnswerEach}
use Rattle.mac_pool.proofs.work.answer_each.Given as goal

abbrev pub invariant-loop-ticket : goal.invariant-loop-ticket
invariant-loop-ticket g l = record {
  done : List (Ticket g.row.S.Denot g.row.S-Job.Denot g.row.S-Reply.Denot);
  left : done ++ l.tickets.items ≡ l.fn.tickets.items;
  answers : AnswerEach done l.parcels.items;
  count : deque_len l.parcels + deque_len l.tickets ≡ deque_len l.fn.tickets;
  tickets : deque_capacity l.tickets ≡ deque_capacity l.fn.tickets;
  parcels : deque_capacity l.parcels ≡ deque_capacity l.fn.parcels;
}

abbrev pub decreases-loop-ticket : goal.decreases-loop-ticket
decreases-loop-ticket g l = deque_len l.tickets
