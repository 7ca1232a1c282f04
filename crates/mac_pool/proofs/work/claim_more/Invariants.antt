use Rattle.std.proofs.Common.{◌≡◌, ◌+◌, ◌≤◌, ◌++◌, List, length}
use Rattle.std.specs.VecDeque.{deque_len, deque_capacity}
use Rattle.mac_queue.specs.declared.ticket.Ticket.{Ticket}
use Rattle.mac_pool.specs.Working.{with_tickets}
use Rattle.mac_pool.proofs.work.claim_more.Given as goal

abbrev pub invariant-loop : goal.invariant-loop
invariant-loop g l = record {
  got : List (Ticket g.row.S.Denot g.row.S-Job.Denot g.row.S-Reply.Denot);
  number : length got ≡ l.claimed;
  tickets : l.tickets.items ≡ l.fn.tickets.items ++ got;
  pass : l.pass ≡ with_tickets l.fn.pass got;
  below : l.claimed ≡ l.counter;
  few : l.counter ≤ l.most;
  count : deque_len l.tickets ≡ deque_len l.fn.tickets + l.claimed;
  capacity : deque_capacity l.tickets ≡ deque_capacity l.fn.tickets;
}
