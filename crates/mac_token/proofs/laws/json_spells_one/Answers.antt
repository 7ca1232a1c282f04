use Rattle.std.proofs.Common.{sym, ◌∙◌}
use Rattle.std.proofs.lemmas.Option.{same_Some}
use Rattle.mac_token.proofs.JsonRead.{json_again}
use Rattle.mac_token.proofs.laws.json_spells_one.Goals as goal

pub returns : goal.returns
returns c = λ bytes r s a b. same_Some r s (sym (json_again bytes r a) ∙ json_again bytes s b)
