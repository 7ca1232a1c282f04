use Rattle.std.proofs.Common.{◌≡◌, ◌+◌, ◌≤◌, ◌++◌, length}
use Rattle.std.specs.Vec.{vec_capacity}
use Rattle.std.specs.VecDeque.{deque_len, deque_capacity}
use Rattle.mac_pool.specs.Parcel.{joined}
use Rattle.mac_pool.proofs.work.taken_apart.Given as goal

abbrev pub invariant-loop-place : goal.invariant-loop-place
invariant-loop-place g l = record {
  left : joined l.labels.items l.jobs.items ++ l.tickets.items ≡ l.fn.tickets.items;
  even : length l.labels.items ≡ length l.jobs.items;
  labels : length l.labels.items + deque_len l.tickets ≤ vec_capacity l.labels;
  jobs : length l.jobs.items + deque_len l.tickets ≤ vec_capacity l.jobs;
  capacity : deque_capacity l.tickets ≡ deque_capacity l.fn.tickets;
}

abbrev pub decreases-loop-place : goal.decreases-loop-place
decreases-loop-place g l = deque_len l.tickets
