use Rattle.mac_decide.proofs.SignerLemmas.{lone-signer}
use Rattle.mac_decide.proofs.signer.find_signer.Goals as goal

pub returns-in-None : goal.returns-in-None
returns-in-None c = lone-signer c.args.keys.now c.args.text.now c.in-None.ensures.minted c.requires
