use Rattle.std.proofs.Common.{◌≡◌, map, drop}
use Rattle.mac_count.specs.RequestCounts.{with_all_counted}
use Rattle.mac_decide.specs.Viewed.{viewed}
use Rattle.mac_plain.specs.Tally.{counts_of, requests_of}
use Rattle.mac_plain.proofs.tally.RequestTally.count_all.Given as goal

abbrev pub invariant-loop-index : goal.invariant-loop-index
invariant-loop-index l =
    with_all_counted (counts_of l.self) (requests_of (map viewed (drop l.index l.jobs)) (drop l.index l.replies))
    ≡ with_all_counted (counts_of l.fn.self) (requests_of (map viewed l.jobs) l.replies)
