use Rattle.std.proofs.Common.{◌-◌}
use Rattle.mac_wire.specs.Reading.{list_at}
use Rattle.mac_wire.proofs.FieldLists.{IsReadTo}
use Rattle.mac_wire.proofs.field_list.FieldList.of.Given as goal

-- the fields so far, and what is still read, are all that is read
abbrev pub invariant-loop : goal.invariant-loop
invariant-loop l = IsReadTo (l.count - l.counter) l.rest (list_at l.count l.bytes)
