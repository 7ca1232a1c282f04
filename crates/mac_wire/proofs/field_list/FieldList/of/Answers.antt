use Rattle.std.proofs.Common.{sym, ◌∙◌, arith}
use Rattle.mac_wire.specs.Reading.{list_at}
use Rattle.mac_wire.proofs.FieldLists.{begins, goes_on, stops, has_rest, is_whole, IsFieldList-read, is_read}
use Rattle.mac_wire.proofs.field_list.FieldList.of.Goals as goal

pub loop-init : goal.loop-init
loop-init c = begins c.args.count c.args.bytes.now

pub loop-preserved : goal.loop-preserved
loop-preserved c =
    goes_on c.args.count c.loop.counter c.loop.rest.now c.in_ok-after.field-0-0.now c.in_ok-after.after.now (list_at c.args.count c.args.bytes.now)
    c.loop-test.true (sym c.in_ok-after.ensures) c.loop.invariant

pub returns-in_err-after : goal.returns-in_err-after
returns-in_err-after c =
    c.from_residual.ensures ∙ sym (stops c.args.count c.loop.counter c.loop.rest.now (list_at c.args.count c.args.bytes.now) c.loop-test.true (sym c.in_err-after.ensures) c.loop.invariant)

pub returns-then-not-is_empty : goal.returns-then-not-is_empty
returns-then-not-is_empty c =
    sym (has_rest c.args.count c.loop.counter c.loop.rest.now (list_at c.args.count c.args.bytes.now) c.loop-test.false (sym c.is_empty.ensures ∙ c.if-not-is_empty.true) c.loop.invariant)

pub invariant_of-result : goal.invariant_of-result
invariant_of-result c =
    let whole = is_whole c.args.count c.loop.counter c.loop.rest.now (list_at c.args.count c.args.bytes.now) c.loop-test.false (sym c.is_empty.ensures ∙ c.if-not-is_empty.false) c.loop.invariant in
    IsFieldList-read c.args.count c.args.bytes.now whole.0 (λ i. omega (arith, c.type_inv.bytes i)) whole.1

pub returns : goal.returns
returns c =
    let whole = is_whole c.args.count c.loop.counter c.loop.rest.now (list_at c.args.count c.args.bytes.now) c.loop-test.false (sym c.is_empty.ensures ∙ c.if-not-is_empty.false) c.loop.invariant in
    is_read c.args.count c.args.bytes.now whole.0 whole.1
