use Rattle.mac_keys.proofs.RevokedMeaning.{lists_what_is_said}
use Rattle.mac_keys.proofs.laws.list_has_what_its_lines_say.Goals as goal

pub returns : goal.returns
returns c = lists_what_is_said
