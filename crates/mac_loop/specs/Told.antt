-- What other loops know of a loop.
use Rattle.std.specs.Prelude.{◌≡◌}
use Rattle.mac_loop.specs.Backlog.{rounded}
use Rattle.mac_loop.specs.Roll.{unsent_there}
use Rattle.mac_loop.specs.declared.looping.Loop.{Loop}
use Rattle.mac_loop.specs.declared.register.Origin.{Ghosts}

-- it has told them how many bytes are unsent on its clients
abbrev pub HasTold : {O : Type 0} {origin : Ghosts O} → Loop O origin → Type 0
HasTold loop = loop.told.bytes
    ≡ rounded (unsent_there loop.roll.connections.slots loop.roll.batch loop.roll.newcomer)
