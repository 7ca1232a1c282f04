-- What faults tell.
use Rattle.std.specs.Prelude.{◌≡◌, ⊤}
use Rattle.atomic_table.specs.Seated.{TableId}
use Rattle.mac_queue.specs.declared.fault.PutFault.{PutFault}
use Rattle.mac_queue.specs.declared.fault.PutFault.TheVariants as put

-- a fault says full only where this mark was found open, and closed only where it was found closed
abbrev pub IsSoFound : TableId → PutFault → Type 0
IsSoFound closing (put.Full found) = found ≡ closing
IsSoFound closing (put.Closed found) = found ≡ closing
IsSoFound closing put.NoMemory = ⊤
IsSoFound closing put.Spent = ⊤
