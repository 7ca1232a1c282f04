use Rattle.std.proofs.Common.{◌-◌, length}
use Rattle.mac_serve.proofs.whole.+seat_from.Given as goal

abbrev pub decreases-seat_from : goal.decreases-seat_from
decreases-seat_from g l = length l.callers.now - l.next
