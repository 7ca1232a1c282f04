use Rattle.std.proofs.Common.{sym}
use Rattle.mac_keys.proofs.ChangeLemmas.{is_none, is_one, is_two}
use Rattle.mac_keys.proofs.change.add_above.Goals as goal

pub returns-in_default-clause-fault : goal.returns-in_default-clause-fault
returns-in_default-clause-fault c = is_none c.args.text.now c.args.name.now c.in_ok-keys.field-0 c.in_ok-keys.ensures.keys c.in_default.is

pub returns-then-is_some-clause-fault : goal.returns-then-is_some-clause-fault
returns-then-is_some-clause-fault c =
    is_two c.args.text.now c.args.name.now c.in_ok-keys.field-0 c.in-Some.keys c.in_ok-keys.ensures.keys c.in-Some.is (sym c.if-is_some.ensures)

pub put_above-requires : goal.put_above-requires
put_above-requires c =
    is_one c.args.text.now c.args.name.now c.in_ok-keys.field-0 c.in-Some.keys c.in_ok-keys.ensures.keys c.in-Some.is (sym c.if-is_some.ensures)
