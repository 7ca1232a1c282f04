use Rattle.std.proofs.Common.{sym, ◌∙◌}
use Rattle.std.proofs.lemmas.Option.{same_Some}
use Rattle.mac_token.proofs.V2Whole.{v2_again}
use Rattle.mac_token.proofs.laws.v2_spells_one.Goals as goal

pub returns : goal.returns
returns c = λ bytes r s v w. same_Some r s (sym (v2_again bytes r v) ∙ v2_again bytes s w)
