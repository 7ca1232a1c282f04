use Rattle.std.proofs.Common.{◌∙◌, sym}
use Rattle.mac_http.proofs.laws.response_tells_the_finding.Goals as goal

pub returns : goal.returns
returns c = λ granted f r s x y. (x.status ∙ sym y.status, x.headers ∙ sym y.headers, x.body ∙ sym y.body)
