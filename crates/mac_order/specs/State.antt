-- The core's state, which keeps whole histories. All of it is this project's own.
use Rattle.std.specs.Prelude.{◌≡◌, ℕ, ◌-◌, Bool, false, List, [], length, replicate, Option, None, Some, slice_get}
use Rattle.std.specs.FinSet.{FinSet, empty}
use Rattle.std.specs.Ordering.{nat_cmp}
use Rattle.mac_order.specs.declared.event.Assignment.{Assignment}

-- a connection: the jobs that arrived and the replies that were sent, whether it is closed, the
-- places that were claimed and those that were finished
pub record Connection (Job Reply : Type 0) : Type 0 where
  pub arrived : List Job
  pub sent : List Reply
  pub closed : Bool
  pub claimed : FinSet nat_cmp
  pub finished : FinSet nat_cmp

-- the state: the connections by their numbers, and for each worker what it has claimed, if anything
pub record State (Job Reply : Type 0) : Type 0 where
  pub connections : List (Connection Job Reply)
  pub workers : List (Option Assignment)

-- how many places of a connection have arrived and are not sent
abbrev pub unsent : {Job Reply : Type 0} → Connection Job Reply → ℕ
unsent link = length link.arrived - length link.sent

-- the worker has claimed this place of this connection
abbrev pub HasClaimed : {Job Reply : Type 0} → State Job Reply → ℕ → ℕ → ℕ → Type 0
HasClaimed state worker number place =
    slice_get state.workers worker ≡ Some (Some (record { connection = number; place = place }))

-- a connection on which nothing has happened
abbrev pub fresh : {Job Reply : Type 0} → Connection Job Reply
fresh = record { arrived = []; sent = []; closed = false; claimed = empty; finished = empty }

-- the opening state: nothing has arrived, nothing is claimed, nothing is closed
abbrev pub opening : {Job Reply : Type 0} → ℕ → ℕ → State Job Reply
opening connections workers =
    record { connections = replicate connections fresh; workers = replicate workers None }
