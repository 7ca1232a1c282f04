-- When a loop has nobody.
use Rattle.std.specs.Prelude.{◌≡◌}
use Rattle.mac_loop.specs.Roll.{count_there}
use Rattle.mac_loop.specs.declared.register.Origin.{Ghosts}
use Rattle.mac_loop.specs.declared.roll.Roll.{Roll}

-- no client is in a slot, in a turn or on the way to a slot
abbrev pub HasNobody : {O : Type 0} {origin : Ghosts O} → Roll O origin → Type 0
HasNobody roll = count_there roll.connections.slots roll.batch roll.newcomer ≡ 0
