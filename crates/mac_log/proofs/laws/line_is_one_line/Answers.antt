use Rattle.mac_log.proofs.TextLemmas.{printed-fields, printed-kind, printed-front}
use Rattle.mac_log.proofs.laws.line_is_one_line.Goals as goal

pub returns-clause-fields : goal.returns-clause-fields
returns-clause-fields c = printed-fields

pub returns-clause-words : goal.returns-clause-words
returns-clause-words c = printed-kind

pub returns-clause-front : goal.returns-clause-front
returns-clause-front c = printed-front
