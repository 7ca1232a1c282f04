use Rattle.mac_log.proofs.FieldLemmas.{fitting-most, fitting-short}
use Rattle.mac_log.proofs.laws.no_byte_is_left_out_that_fits.Goals as goal

pub returns-clause-fits : goal.returns-clause-fits
returns-clause-fits c = fitting-short

pub returns-clause-next : goal.returns-clause-next
returns-clause-next c = fitting-most
