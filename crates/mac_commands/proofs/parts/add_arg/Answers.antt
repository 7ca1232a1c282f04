use Rattle.std.proofs.lemmas.Result.{IfOk-weaker}
use Rattle.mac_commands.proofs.parts.add_arg.Goals as goal

pub returns : goal.returns
returns c = IfOk-weaker c.arg.result _ _ (λ whole adds. adds.shape c.requires) c.arg.ensures
