use Rattle.std.proofs.Common.{length}
use Rattle.mac_token.proofs.TallyLemmas.{Tallies}
use Rattle.mac_token.proofs.tally.Tally.of.Given as goal

abbrev pub invariant-loop-section : goal.invariant-loop-section
invariant-loop-section l = Tallies l.version l.bytes l.tally l.rest

abbrev pub decreases-loop-section : goal.decreases-loop-section
decreases-loop-section l = length l.rest
