use Rattle.mac_keys.proofs.ChangeLemmas.{is_none, is_one, is_two}
use Rattle.mac_keys.proofs.change.raise_lower.Goals as goal

pub returns-in_default-clause-fault : goal.returns-in_default-clause-fault
returns-in_default-clause-fault c = is_none c.args.text.now c.args.name.now c.in_ok-keys.field-0 c.in_ok-keys.ensures.keys c.in_default.is

pub returns-then-is_none-clause-fault : goal.returns-then-is_none-clause-fault
returns-then-is_none-clause-fault c =
    is_one c.args.text.now c.args.name.now c.in_ok-keys.field-0 c.in-Some.keys c.in_ok-keys.ensures.keys c.in-Some.is c.if-is_none.ensures

pub raise_line-requires : goal.raise_line-requires
raise_line-requires c =
    is_two c.args.text.now c.args.name.now c.in_ok-keys.field-0 c.in-Some.keys c.in_ok-keys.ensures.keys c.in-Some.is c.if-is_none.ensures
