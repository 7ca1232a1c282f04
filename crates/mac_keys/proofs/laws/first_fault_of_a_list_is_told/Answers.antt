use Rattle.mac_keys.proofs.RevokedMeaning.{first_bad}
use Rattle.mac_keys.proofs.laws.first_fault_of_a_list_is_told.Goals as goal

pub returns : goal.returns
returns c = first_bad
