use Rattle.std.proofs.Common.{ℕ, Bool, true, false, List, [], ◌∷◌, ◌≡◌, if◌then◌else◌, nat_lt, slice_index, refl}
use Rattle.sha256x8.specs.Lanes.{lane_at, lane_state}
use Rattle.sha256x8.proofs.state.chosen.Goals as goal

-- the words of one of two states, chosen one by one or all at once
words_chosen : (b : Bool) (x y : List (List ℕ)) (j : ℕ) →
    (if b then lane_at x 0 j else lane_at y 0 j) ∷ (if b then lane_at x 1 j else lane_at y 1 j)
    ∷ (if b then lane_at x 2 j else lane_at y 2 j) ∷ (if b then lane_at x 3 j else lane_at y 3 j)
    ∷ (if b then lane_at x 4 j else lane_at y 4 j) ∷ (if b then lane_at x 5 j else lane_at y 5 j)
    ∷ (if b then lane_at x 6 j else lane_at y 6 j) ∷ (if b then lane_at x 7 j else lane_at y 7 j) ∷
    []
    ≡ if b then lane_state j x else lane_state j y
words_chosen true x y j = refl
words_chosen false x y j = refl

pub returns : goal.returns
returns c = λ j lt.
    rw (
      c.chosen_row.ensures j lt,
      c.chosen_row-2.ensures j lt,
      c.chosen_row-3.ensures j lt,
      c.chosen_row-4.ensures j lt,
      c.chosen_row-5.ensures j lt,
      c.chosen_row-6.ensures j lt,
      c.chosen_row-7.ensures j lt,
      c.chosen_row-8.ensures j lt,
    ) (words_chosen (nat_lt 0 (slice_index c.args.busy j)) c.args.next c.args.state j)
