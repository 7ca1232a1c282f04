use Rattle.std.proofs.Common.{◌≡◌}
use Rattle.mac_queue.proofs.mailbox.Mailbox.deliver.Given as goal

abbrev pub invariant-loop : goal.invariant-loop
invariant-loop g l = l.post ≡ l.fn.post
