-- How far a daemon is.
use Rattle.std.specs.Prelude.{◌≡◌, ◌<◌, ◌⊎◌, IsTrue}
use Rattle.mac_host.specs.declared.standing.Standing.{Standing}

-- it is to end once it was told to, once another one has its place, and once it has ended by itself
abbrev pub IsEnding : Standing → Type 0
IsEnding standing = (0 < standing.calls) ⊎ IsTrue standing.is_replaced ⊎ IsTrue standing.is_over

-- it has ended, no further server has a connection, and none takes one any more
abbrev pub IsEmpty : Standing → Type 0
IsEmpty standing =
    IsTrue standing.is_over × (standing.connections ≡ 0) × (standing.servers ≡ 0)
