use Rattle.mac_commands.proofs.DoingLemmas.{ends_told}
use Rattle.mac_commands.proofs.people.answering.run_task.Goals as goal

pub returns-in-Ok : goal.returns-in-Ok
returns-in-Ok g c = ends_told c.args.task.now c.in-Ok.said c.tell_said.result c.in-Ok.ensures c.tell_said.ensures
