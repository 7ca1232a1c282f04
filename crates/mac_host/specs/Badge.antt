-- Where connections come in.
use Rattle.std.specs.Prelude.{ℕ, if◌then◌else◌, nat_eq}
use Rattle.mac_host.specs.declared.badge.Socket.{Socket}
use Rattle.mac_host.specs.declared.badge.Socket.TheVariants.{Main, Side}

-- the socket of a door: the first one's is the daemon's own
abbrev pub socket_of_door : ℕ → Socket
socket_of_door door = if nat_eq door 0 then Main else Side
