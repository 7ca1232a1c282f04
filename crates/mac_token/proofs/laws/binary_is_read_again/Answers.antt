use Rattle.std.proofs.Common.{◌∙◌}
use Rattle.mac_token.proofs.ViewLemmas.{seen_again}
use Rattle.mac_token.proofs.Within.{token_or_limit-Ok}
use Rattle.mac_token.proofs.laws.binary_is_read_again.Goals as goal

pub returns : goal.returns
returns c = λ t token within. seen_again t token.location token.sig_length ∙ token_or_limit-Ok t within
