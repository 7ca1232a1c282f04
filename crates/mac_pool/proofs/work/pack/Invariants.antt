use Rattle.std.proofs.Common.{◌≡◌, ◌++◌, List, length}
use Rattle.std.specs.VecDeque.{deque_capacity}
use Rattle.mac_queue.specs.declared.ticket.Ticket.{Ticket}
use Rattle.mac_pool.specs.Parcel.{AnswerEach, joined}
use Rattle.mac_pool.proofs.work.pack.Given as goal

abbrev pub invariant-loop-answer : goal.invariant-loop-answer
invariant-loop-answer g l = record {
  even : length l.labels.items ≡ length l.answers.items;
  done : List (Ticket g.row.S.Denot g.row.S-Job.Denot g.row.S-Reply.Denot);
  left : joined l.labels.items l.answers.items ++ done ≡ joined l.fn.labels.items l.fn.answers.items;
  answers : AnswerEach done l.parcels.items;
  capacity : deque_capacity l.parcels ≡ deque_capacity l.fn.parcels;
}

abbrev pub decreases-loop-answer : goal.decreases-loop-answer
decreases-loop-answer g l = length l.answers.items
