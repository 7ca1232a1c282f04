use Rattle.std.proofs.Common.{sym, ◌∙◌}
use Rattle.mac_wire.proofs.Spelling.{some_is}
use Rattle.mac_wire.proofs.Asking.{request_of-asks}
use Rattle.mac_wire.proofs.laws.one_request.Goals as goal

pub returns : goal.returns
returns c = λ payload a b asks_a asks_b. some_is a b (sym (request_of-asks payload a asks_a) ∙ request_of-asks payload b asks_b)
