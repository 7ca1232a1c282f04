use Rattle.std.proofs.Common.{length}
use Rattle.mac_daemon.proofs.running.+run_loops.Given as goal

abbrev pub decreases-run_loops : goal.decreases-run_loops
decreases-run_loops g l = length l.made.items
