use Rattle.std.proofs.Common.{sym, ◌∙◌}
use Rattle.mac_decide.proofs.remembering.remember_payload.Goals as goal

pub remember-requires : goal.remember-requires
remember-requires c = c.requires ∙ sym c.in-Some.ensures.asks
