-- The first passes of a queue.
use Rattle.std.proofs.Common.{◌≡◌, List, ◌∷◌, slice_get, ap}
use Rattle.atomic_table.specs.Seated.{TableId}
use Rattle.mac_queue.specs.Pass.{Pass, AreFresh}

module _ {Job : Type 0} where
  -- two that stand in front are of the queue
  pub two_at : (queue : TableId) (passes rest : List (Pass Job)) (first second : Pass Job)
      → AreFresh queue passes
      → passes ≡ first ∷ second ∷ rest
      → (first.queue ≡ queue) × (second.queue ≡ queue)
  two_at queue passes rest first second fresh split = (
    (fresh 0 first (ap (λ (l : List (Pass Job)). slice_get l 0) split)).queue_is,
    (fresh 1 second (ap (λ (l : List (Pass Job)). slice_get l 1) split)).queue_is,
  )
