-- Desks of one pool, whatever is done at them.
use Rattle.std.specs.Prelude.{◌≡◌, List, All}
use Rattle.atomic_table.specs.Seated.{TableId}
use Rattle.mac_queue.specs.declared.desk.Desk.{Desk}

module _ {S Job Reply : Type 0} where
  -- each desk is at this queue
  abbrev pub AreAt : TableId → List (Desk S Job Reply) → Type 0
  AreAt queue desks = All (λ (desk : Desk S Job Reply). desk.putter.queue ≡ queue) desks

  -- if the first desks are at this queue, the others are at it
  abbrev pub Kept : TableId → List (Desk S Job Reply) → List (Desk S Job Reply) → Type 0
  Kept queue before after = AreAt queue before → AreAt queue after

  -- whichever queue the first desks are at, the others are at it
  abbrev pub AreMoved : List (Desk S Job Reply) → List (Desk S Job Reply) → Type 0
  AreMoved before after = (queue : TableId) → AreAt queue before → AreAt queue after
