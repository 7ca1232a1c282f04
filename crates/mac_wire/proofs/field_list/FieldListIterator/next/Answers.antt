use Rattle.std.proofs.Common.{sym, ap, ◌∙◌, arith, length, rules}
use Rattle.mac_wire.proofs.FieldLists.{steps, is_not_cut}
use Rattle.mac_wire.proofs.field_list.FieldListIterator.next.Goals as goal

pub returns-in_err-field-clause-steps : goal.returns-in_err-field-clause-steps
returns-in_err-field-clause-steps c =
    absurd (is_not_cut c.self.inside.count c.self.inside.bytes.now c.self.invariant (omega arith) (sym c.in_err-field.ensures))

pub invariant_of-self : goal.invariant_of-self
invariant_of-self c = (steps c.self.inside.count c.self.inside.bytes.now c.in_ok-field.field.now c.in_ok-field.rest.now c.self.invariant (omega arith) (sym c.in_ok-field.ensures)).1

pub returns-clause-steps : goal.returns-clause-steps
returns-clause-steps c =
    sym c.self.view_is ∙ (steps c.self.inside.count c.self.inside.bytes.now c.in_ok-field.field.now c.in_ok-field.rest.now c.self.invariant (omega arith) (sym c.in_ok-field.ensures)).0

pub returns-clause-goes : goal.returns-clause-goes
returns-clause-goes c =
    let shorter = ap length (sym c.self.view_is ∙ (steps c.self.inside.count c.self.inside.bytes.now c.in_ok-field.field.now c.in_ok-field.rest.now c.self.invariant (omega arith) (sym c.in_ok-field.ensures)).0) in
    search rules
