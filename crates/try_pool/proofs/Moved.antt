-- Desks that are written anew where they stand.
use Rattle.std.proofs.Common.{◌≡◌, ℕ, ◌<◌, List, length, slice_set, slice_index_or, ap, ◌∙◌, length-set}
use Rattle.std.proofs.lemmas.List.Elements.{All-set}
use Rattle.mac_queue.specs.declared.desk.Desk.{Desk}
use Rattle.try_pool.specs.Desks.{AreMoved}

module _ {S Job Reply : Type 0} where
  -- a desk that is written where one of the same queue stood
  pub written : (before desks : List (Desk S Job Reply)) (number : ℕ) (was desk default : Desk S Job Reply)
      → AreMoved before desks × (length desks ≡ length before)
      → number < length desks
      → was ≡ slice_index_or desks number default
      → desk.putter.queue ≡ was.putter.queue
      → AreMoved before (slice_set desks number desk) × (length (slice_set desks number desk) ≡ length before)
  written before desks number was desk default kept below value same = (
    (λ queue all.
        let here = kept.0 queue all in
        let at = same ∙ ap (λ (d : Desk S Job Reply). d.putter.queue) value ∙ here number default below in
        All-set (λ (d : Desk S Job Reply). d.putter.queue ≡ queue) desks number desk at here),
    length-set desks number desk ∙ kept.1,
  )
