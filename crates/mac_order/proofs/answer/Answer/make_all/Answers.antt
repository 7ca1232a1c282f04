use Rattle.std.proofs.Common.{arith}
use Rattle.std.proofs.lemmas.Grind.{common_steps}
use Rattle.mac_order.proofs.answer.Answer.make_all.Goals as goal

pub invariant_of-push_reserved : goal.invariant_of-push_reserved
invariant_of-push_reserved g c = grind (arith, common_steps)

pub loop-job-preserved : goal.loop-job-preserved
loop-job-preserved g c = grind (arith, common_steps)
