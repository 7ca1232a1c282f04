use Rattle.std.proofs.Common.{◌≡◌, sum_by, take}
use Rattle.mac_loop.specs.Backlog.{rounded}
use Rattle.mac_loop.specs.Unsent.{unsent_on}
use Rattle.mac_loop.proofs.batch.unsent_on_all.Given as goal

-- those of the clients so far are counted
abbrev pub invariant-loop-client : goal.invariant-loop-client
invariant-loop-client l = l.all.bytes ≡ rounded (sum_by unsent_on (take l.client-index l.clients))
