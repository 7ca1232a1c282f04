use Rattle.mac_loop.proofs.VerifiedLemmas.{told_signed}
use Rattle.mac_loop.proofs.laws.told_identifiers_are_signed.Goals as goal

pub returns : goal.returns
returns c = told_signed
