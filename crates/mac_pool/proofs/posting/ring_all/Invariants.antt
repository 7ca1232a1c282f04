use Rattle.std.proofs.Common.{◌≡◌}
use Rattle.std.specs.VecDeque.{deque_len, deque_capacity}
use Rattle.mac_pool.proofs.posting.ring_all.Given as goal

abbrev pub invariant-loop-mail : goal.invariant-loop-mail
invariant-loop-mail g l = deque_capacity l.owed ≡ deque_capacity l.fn.owed

abbrev pub decreases-loop-mail : goal.decreases-loop-mail
decreases-loop-mail g l = deque_len l.owed
