use Rattle.mac_count.proofs.OnceLemmas.{number_once, request_once}
use Rattle.mac_count.proofs.laws.each_is_written_once.Goals as goal

pub returns-clause-numbers : goal.returns-clause-numbers
returns-clause-numbers c = number_once

pub returns-clause-requests : goal.returns-clause-requests
returns-clause-requests c = request_once
