use Rattle.std.proofs.Common.{◌-◌}
use Rattle.mac_serve.proofs.outstanding.Outstanding.wanted.Given as goal

abbrev pub decreases-loop-bytes : goal.decreases-loop-bytes
decreases-loop-bytes l = l.self.next - l.place
