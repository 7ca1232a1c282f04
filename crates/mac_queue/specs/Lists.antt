-- Lists of entries, compared without their order.
use Rattle.std.specs.Prelude.{◌≡◌, ℕ, ◌+◌, List}
use Rattle.std.specs.List.{sum_by}

module _ {Entry : Type 0} where
  -- the first list holds each entry as often as the other two together: however entries are
  -- weighed, the weights agree
  abbrev pub IsSplitInto : List Entry → List Entry → List Entry → Type 0
  IsSplitInto whole one other =
      (weight : Entry → ℕ) → sum_by weight whole ≡ sum_by weight one + sum_by weight other
