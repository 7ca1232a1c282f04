use Rattle.std.proofs.Common.{rules}
use Rattle.std.proofs.lemmas.List.{replicate_more}
use Rattle.mac_order.proofs.reorder.empty_slots.Goals as goal

pub loop-preserved : goal.loop-preserved
loop-preserved g c = search (rules, replicate_more)
