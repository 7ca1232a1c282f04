use Rattle.std.proofs.Common.{◌≡◌, ◌≤◌, ℕ, length, map, slice_get}
use Rattle.mac_decide.specs.Prepared.{comes_to}
use Rattle.mac_decide.proofs.side_by_side.fold_all.Given as goal

-- the places that were passed come to what they came to, and the others are as they were
abbrev pub invariant-loop-lane : goal.invariant-loop-lane
invariant-loop-lane l = record {
  count : length l.run ≡ length l.initial.run;
  replies : map comes_to l.run ≡ map comes_to l.initial.run;
  ahead : (place : ℕ) → l.next ≤ place → slice_get l.run place ≡ slice_get l.initial.run place;
}
