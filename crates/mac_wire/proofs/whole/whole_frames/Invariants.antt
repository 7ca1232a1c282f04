use Rattle.std.proofs.Common.{◌≡◌, ◌+◌, ◌≤◌, ℕ, List, All, length, take}
use Rattle.mac_wire.specs.Frame.{framed}
use Rattle.mac_wire.proofs.Wholes.{Counted, Fits}
use Rattle.mac_wire.proofs.whole.whole_frames.Given as goal

abbrev pub invariant-loop-behind : goal.invariant-loop-behind
invariant-loop-behind l =
    (l.count + length l.rest ≤ length l.bytes)
    × ((payloads : List (List ℕ)) → All Fits payloads → l.bytes ≡ take (length l.bytes) (framed payloads) → Counted payloads l.bytes l.rest l.count)

abbrev pub decreases-loop-behind : goal.decreases-loop-behind
decreases-loop-behind l = length l.rest
