use Rattle.std.proofs.Common.{refl}
use Rattle.percent_encoding.proofs.PercentLemmas.{round_trip}
use Rattle.mac_http.specs.declared.escaped.TheConstants.{ESCAPED}
use Rattle.mac_http.proofs.laws.escaped_is_read.Goals as goal

pub returns : goal.returns
returns c = λ bytes small. round_trip ESCAPED bytes refl small
