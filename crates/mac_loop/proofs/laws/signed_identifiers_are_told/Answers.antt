use Rattle.mac_loop.proofs.VerifiedLemmas.{signed_now, signed_then}
use Rattle.mac_loop.proofs.laws.signed_identifiers_are_told.Goals as goal

pub returns-clause-then : goal.returns-clause-then
returns-clause-then c = signed_then

pub returns-clause-now : goal.returns-clause-now
returns-clause-now c = signed_now
