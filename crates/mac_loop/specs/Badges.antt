-- What a connection is known by.
use Rattle.std.specs.Prelude.{◌≡◌, ℕ}
use Rattle.mac_host.specs.declared.badge.Badge.{Badge}
use Rattle.mac_host.specs.declared.badge.Socket.{Socket}

-- whose it is: its number, and the socket that it came in at
abbrev pub whose : Badge → ℕ × Socket
whose badge = (badge.number, badge.socket)

-- one and the same connection's, wherever it stands in the list
abbrev pub IsSameBadge : Badge → Badge → Type 0
IsSameBadge before after = (after.number ≡ before.number) × (after.socket ≡ before.socket)
