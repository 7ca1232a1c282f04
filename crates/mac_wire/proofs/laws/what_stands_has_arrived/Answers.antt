use Rattle.std.proofs.Common.{List, [], sym, subst}
use Rattle.std.proofs.lemmas.List.{append-nil}
use Rattle.mac_wire.specs.declared.arrival.Arrival.{Arrival}
use Rattle.mac_wire.specs.Session.{HasCome}
use Rattle.mac_wire.proofs.Sessions.{come_fronts}
use Rattle.mac_wire.proofs.laws.what_stands_has_arrived.Goals as goal

pub returns : goal.returns
returns c = λ session read written arrived replies s.
    come_fronts session.version read session.carried.items arrived []
    (subst (λ (l : List Arrival). HasCome session.version read l session.carried.items) (sym (append-nil arrived)) s.came)
