use Rattle.mac_decide.proofs.SeenLemmas.{now-minted, verify-minted}
use Rattle.mac_decide.proofs.remembering.keyed_text.Goals as goal

pub returns-in-Verify-Some : goal.returns-in-Verify-Some
returns-in-Verify-Some c = λ reply. verify-minted c.args.asking.now _ _ _ _ _ reply c.in-Verify-Some.is-0 c.in-Verify-Some.is-1

pub returns-in-VerifyNow-Some : goal.returns-in-VerifyNow-Some
returns-in-VerifyNow-Some c = λ reply. now-minted c.args.asking.now _ _ _ _ _ reply c.in-VerifyNow-Some.is-0 c.in-VerifyNow-Some.is-1
