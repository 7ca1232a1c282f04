use Rattle.mac_plain.proofs.Promises.{promised}
use Rattle.mac_plain.proofs.laws.what_is_written_is_a_beginning.Goals as goal

pub returns : goal.returns
returns g c = λ client read written jobs h. promised client.course client.session read written jobs h
