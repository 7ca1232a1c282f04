-- Desks that come home to their pool.
use Rattle.std.specs.Prelude.{◌≡◌, Bool, true, false, List, Option, Some, None, map}
use Rattle.mac_queue.specs.Pass.{Pass}
use Rattle.mac_pool.specs.Pool.{Slots}

module _ {Job : Type 0} where
  -- whether the pass of a slot is at home
  abbrev pub has_pass : Option (Pass Job) → Bool
  has_pass None = false
  has_pass (Some pass) = true

  -- which passes of a pool are at home, by their numbers
  abbrev pub home_places : Slots Job → List Bool
  home_places pool = map has_pass pool.passes

  -- the same passes are at home as before, in a pool of the same queue and as many workers
  pub record AreHome (before after : Slots Job) : Type 0 where
    pub same_queue : after.queue ≡ before.queue
    pub same_workers : after.workers ≡ before.workers
    pub same_homes : home_places after ≡ home_places before
