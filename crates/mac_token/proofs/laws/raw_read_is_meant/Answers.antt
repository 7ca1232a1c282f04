use Rattle.std.proofs.Common.{subst}
use Rattle.mac_token.specs.Read.{ReadRaw}
use Rattle.mac_token.proofs.ReadLaws.{raw_read_means, raw_read_once}
use Rattle.mac_token.proofs.laws.raw_read_is_meant.Goals as goal

pub returns : goal.returns
returns c = λ bytes end fits. (raw_read_once bytes end fits, λ e. subst (ReadRaw bytes) e (raw_read_means bytes fits))
