use Rattle.mac_serve.proofs.JoiningLemmas.{serving-joins}
use Rattle.mac_serve.proofs.laws.serving_joins_what_came_before.Goals as goal

pub returns : goal.returns
returns c = serving-joins
