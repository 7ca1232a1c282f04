use Rattle.mac_plain.proofs.World.{reached_by}
use Rattle.mac_plain.proofs.laws.lives_are_of_the_world.Goals as goal

pub returns : goal.returns
returns c = λ rights came went said. record { done = said.done; under = said.under; reached = reached_by said.done; promised = said.promised }
