use Rattle.std.proofs.Common.{◌≡◌, ◌<◌, ℕ, IfSome, Some}
use Rattle.mac_loop.specs.Resting.{rested_at, RestedSince}
use Rattle.mac_loop.proofs.resting.stalest.Given as goal

-- the one that was found has rested longest of those in the slots so far
abbrev pub invariant-loop-slot : goal.invariant-loop-slot
invariant-loop-slot g l = record {
  one : IfSome l.found (λ one. rested_at l.socket l.slots one.slot ≡ Some one.since);
  longest : (slot since : ℕ) → slot < l.slot → rested_at l.socket l.slots slot ≡ Some since → RestedSince l.found since;
}
