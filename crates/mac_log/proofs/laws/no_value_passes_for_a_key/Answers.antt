use Rattle.mac_log.proofs.TextLemmas.{count-told, count-whole, count-front}
use Rattle.mac_log.proofs.laws.no_value_passes_for_a_key.Goals as goal

pub returns-clause-whole : goal.returns-clause-whole
returns-clause-whole c = count-whole

pub returns-clause-cut : goal.returns-clause-cut
returns-clause-cut c = count-told

pub returns-clause-front : goal.returns-clause-front
returns-clause-front c = count-front
