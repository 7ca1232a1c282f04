use Rattle.std.proofs.Common.{sym, ◌∙◌}
use Rattle.std.proofs.lemmas.Option.{same_Some}
use Rattle.mac_token.proofs.Base64Read.{base64_again}
use Rattle.mac_token.proofs.laws.base64_spells_one.Goals as goal

pub returns : goal.returns
returns c = λ text a b of_a of_b. same_Some a b (sym (base64_again text a of_a) ∙ base64_again text b of_b)
