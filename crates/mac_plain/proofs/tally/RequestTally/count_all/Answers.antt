use Rattle.std.proofs.Common.{List, ℕ, ◌+◌, map, drop, ap, sym, ◌∙◌, arith}
use Rattle.mac_count.specs.RequestCounts.{with_all_counted}
use Rattle.mac_decide.specs.Viewed.{viewed}
use Rattle.mac_plain.specs.Tally.{counts_of, requests_of}
use Rattle.mac_plain.proofs.Tallies.{one-counted, all-counted}
use Rattle.mac_plain.proofs.tally.RequestTally.count_all.Goals as goal

pub loop-index-preserved : goal.loop-index-preserved
loop-index-preserved c =
    let i : ℕ = c.loop-index.index in
    let step = one-counted (counts_of c.loop-index.self) c.args.jobs.now c.args.replies.now i c.index-jobs-index.result c.index-replies-index.result (omega arith) (omega arith) c.index-jobs-index.is c.index-replies-index.is in
    ap (λ (n : List ℕ). with_all_counted n (requests_of (map viewed (drop (i + 1) c.args.jobs.now)) (drop (i + 1) c.args.replies.now))) c.count.ensures
    ∙ sym step ∙ c.loop-index.invariant

pub returns : goal.returns
returns c = sym (all-counted (counts_of c.loop-index.self) c.args.jobs.now c.args.replies.now c.loop-index.index (omega arith)) ∙ c.loop-index.invariant
