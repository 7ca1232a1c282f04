-- What the thread that serves promises.
use Rattle.std.specs.Prelude.{◌≡◌, ℕ}
use Rattle.mac_sockets.specs.Entrance.{doors_of, taken_of}
use Rattle.mac_daemon.specs.declared.day.Admission.{Admission}
use Rattle.mac_daemon.specs.declared.running.ServiceParts.{ServiceParts}

-- what it was asked for, with so many loops
pub record Promises (service : ServiceParts) (many : ℕ) (promise : Admission) : Type 0 where
  pub count : promise.count ≡ service.count
  pub loops : promise.loops ≡ many
  pub workers : promise.workers ≡ service.workers
  pub doors : doors_of promise.entrance.value ≡ doors_of service.entrance
  pub taken : taken_of promise.entrance.value ≡ taken_of service.entrance
