-- How much is unsent on a client.
use Rattle.std.specs.Prelude.{ℕ, length}
use Rattle.mac_plain.specs.declared.client.Client.{Client}
use Rattle.mac_loop.specs.declared.port.SocketPort.{SocketPort}

-- how many bytes are unsent on a client
abbrev pub unsent_on : Client SocketPort → ℕ
unsent_on client = length client.session.unsent
