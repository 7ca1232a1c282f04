use Rattle.mac_count.specs.declared.times.TheConstants.{BOUND_MICROS}
use Rattle.mac_count.proofs.TimeLemmas.{within-tells}
use Rattle.mac_count.proofs.laws.bounds_tell_who_took_no_longer.Goals as goal

pub returns : goal.returns
returns c k micros within = within-tells BOUND_MICROS k micros within
