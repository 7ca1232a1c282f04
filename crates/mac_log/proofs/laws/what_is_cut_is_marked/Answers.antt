use Rattle.mac_log.proofs.CutLemmas.{told-marked, told-whole, front-marked}
use Rattle.mac_log.proofs.laws.what_is_cut_is_marked.Goals as goal

pub returns-clause-cut : goal.returns-clause-cut
returns-clause-cut c = told-marked

pub returns-clause-whole : goal.returns-clause-whole
returns-clause-whole c = told-whole

pub returns-clause-front : goal.returns-clause-front
returns-clause-front c = front-marked
