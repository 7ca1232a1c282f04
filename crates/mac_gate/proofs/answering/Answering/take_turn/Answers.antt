use Rattle.mac_gate.proofs.AnsweredLemmas.{site_turn}
use Rattle.mac_gate.proofs.answering.Answering.take_turn.Goals as goal

pub returns-in-Site : goal.returns-in-Site
returns-in-Site g c = site_turn _ _ _ _ c.in-Site.is _ _ _ _ _ _ c.take_page_turn.ensures
