use Rattle.std.proofs.Common.{◌≡◌, ◌++◌, List, length}
use Rattle.std.specs.VecDeque.{deque_capacity}
use Rattle.mac_queue.specs.declared.ticket.Ticket.{Ticket}
use Rattle.mac_pool.specs.Parcel.{AnswerEach, joined}
use Rattle.mac_pool.proofs.work.answer_parts.Given as goal

abbrev pub invariant-loop-job : goal.invariant-loop-job
invariant-loop-job g l = record {
  even : length l.labels.items ≡ length l.jobs.items;
  done : List (Ticket g.row.S.Denot g.row.S-Job.Denot g.row.S-Reply.Denot);
  left : joined l.labels.items l.jobs.items ++ done ≡ joined l.fn.labels.items l.fn.jobs.items;
  answers : AnswerEach done l.parcels.items;
  capacity : deque_capacity l.parcels ≡ deque_capacity l.fn.parcels;
}

abbrev pub decreases-loop-job : goal.decreases-loop-job
decreases-loop-job g l = length l.jobs.items
