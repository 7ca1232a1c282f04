use Rattle.std.proofs.Common.{◌≡◌, arith}
use Rattle.mac_wire.specs.FieldList.{IsFieldList}
use Rattle.mac_wire.proofs.FieldLists.{same_lists}
use Rattle.mac_wire.proofs.field_list.FieldListPartialEq.eq.Goals as goal

pub returns-then-self-other : goal.returns-then-self-other
returns-then-self-other c =
    let a = c.self.inside in
    let b = c.other.inside in
    let counts : b.count ≡ a.count = omega arith in
    let other : IsFieldList a.count b.bytes.now = rw (← counts) c.other.invariant in
    rw (← c.self.view_is, ← c.other.view_is, counts) (same_lists a.count a.bytes.now b.bytes.now c.eq.result c.self.invariant other c.eq.ensures)
