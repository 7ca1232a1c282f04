-- What is kept of a client that is out of its slot for a turn.
use Rattle.mac_decide.specs.declared.rights.Rights.{Rights}
use Rattle.mac_plain.specs.declared.client.Client.{Client}
use Rattle.mac_loop.specs.Register.{who}
use Rattle.mac_loop.specs.declared.lent.Lent.{Lent}
use Rattle.mac_loop.specs.declared.port.SocketPort.{SocketPort}
use Rattle.mac_loop.specs.declared.register.Origin.{Ghosts}

-- the rights of a client
abbrev pub rights_of : Client SocketPort → Rights
rights_of client = client.rights.value

-- those that it was admitted under
abbrev pub rights_lent : {O : Type 0} {origin : Ghosts O} → Lent O origin → Rights
rights_lent lent = (who lent.presence).rights.value
