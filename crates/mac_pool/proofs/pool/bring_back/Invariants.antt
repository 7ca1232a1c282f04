use Rattle.std.proofs.Common.{◌≡◌, ◌+◌, ◌++◌, length, map}
use Rattle.std.specs.Vec.{vec_capacity}
use Rattle.mac_pool.specs.Pool.{AreIdle, HaveAnswered, passes_of}
use Rattle.mac_pool.proofs.pool.bring_back.Given as goal

abbrev pub invariant-loop-thread : goal.invariant-loop-thread
invariant-loop-thread g l = record {
  capacity : vec_capacity l.all ≡ vec_capacity l.fn.all;
  all : l.all.items ≡ l.fn.all.items ++ passes_of l.came;
  count : length l.came + length l.workers.items ≡ length l.fn.workers.items;
  answered : HaveAnswered l.queue.tickets l.came;
  left : AreIdle l.queue.tickets (map (λ worker. worker.promise.0.value) l.workers.items);
}

abbrev pub decreases-loop-thread : goal.decreases-loop-thread
decreases-loop-thread g l = length l.workers.items
