-- The list keeps those that are another slot.
use Rattle.std.proofs.Common.{rules}
use Rattle.std.proofs.lemmas.Fn.{filter_same}
use Rattle.mac_slots.proofs.slots.unlist.Goals as goal

pub returns-clause-ready : goal.returns-clause-ready
returns-clause-ready c = filter_same _ _ _ (λ x b f k. search rules) _ _ c.retain.ensures.filtered
