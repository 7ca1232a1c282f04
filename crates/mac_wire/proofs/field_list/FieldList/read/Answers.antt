use Rattle.std.proofs.Common.{arith, ◌∙◌, ap}
use Rattle.mac_wire.specs.Reading.{counted_list_at}
use Rattle.mac_wire.proofs.FieldLists.{counted-spells, spells-counted}
use Rattle.mac_wire.proofs.field_list.FieldList.read.Goals as goal

pub returns-clause-found : goal.returns-clause-found
returns-clause-found c = counted-spells c.args.bytes.now c.counted.result (λ i. omega (arith, c.type_inv.bytes i)) c.counted.ensures

pub returns-clause-only : goal.returns-clause-only
returns-clause-only c fields parts short fit = c.counted.ensures ∙ ap (counted_list_at 255) parts ∙ spells-counted fields short fit
