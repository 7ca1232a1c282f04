use Rattle.mac_token.proofs.DraftLemmas.{signed-is_written}
use Rattle.mac_token.proofs.laws.signed_draft_is_written.Goals as goal

pub returns : goal.returns
returns c = signed-is_written
