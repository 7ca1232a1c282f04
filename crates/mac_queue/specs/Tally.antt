-- What a tally tells.
use Rattle.std.specs.Prelude.{◌≡◌, ℕ, List, length}
use Rattle.mac_queue.specs.Mail.{Mail}
use Rattle.mac_queue.specs.Lists.{IsSplitInto}
use Rattle.mac_queue.specs.Pass.{Pass, all_put, all_claimed}
use Rattle.mac_queue.specs.declared.queue.tally.Tally.{Tally}

-- what the passes put is, each as often, what they claimed together with what is left; the numbers
-- are these lists' lengths
pub record IsTally {Job : Type 0} (passes : List (Pass Job)) (tally : Tally) : Type 0 where
  pub left : List (Mail × (ℕ × Job))
  pub each : IsSplitInto (all_put passes) (all_claimed passes) left
  pub put_is : tally.put ≡ length (all_put passes)
  pub claimed_is : tally.claimed ≡ length (all_claimed passes)
  pub left_is : tally.left ≡ length left
