use Rattle.mac_decide.proofs.SendableLemmas.{reply-sent}
use Rattle.mac_decide.proofs.laws.replies_can_be_sent.Goals as goal

pub returns : goal.returns
returns c = reply-sent
