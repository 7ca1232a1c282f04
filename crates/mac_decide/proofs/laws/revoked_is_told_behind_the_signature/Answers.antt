use Rattle.mac_decide.proofs.RevokedLaws.{refused-listed, told-minted}
use Rattle.mac_decide.proofs.laws.revoked_is_told_behind_the_signature.Goals as goal

pub returns-clause-told : goal.returns-clause-told
returns-clause-told c = told-minted

pub returns-clause-refused : goal.returns-clause-refused
returns-clause-refused c = refused-listed
