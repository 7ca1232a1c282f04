use Rattle.std.proofs.Common.{length}
use Rattle.mac_token.proofs.CaveatsIn.{Copies}
use Rattle.mac_token.proofs.raw_view.copies.Given as goal

abbrev pub invariant-loop-section : goal.invariant-loop-section
invariant-loop-section l = Copies l.version l.bytes l.caveats.items l.rest

abbrev pub decreases-loop-section : goal.decreases-loop-section
decreases-loop-section l = length l.rest
