use Rattle.mac_keys.proofs.Pairs.{HasPairs-from_line}
use Rattle.mac_keys.proofs.key_map.KeyMap.take_line.Goals as goal

pub returns-in-Some-clause-memory : goal.returns-in-Some-clause-memory
returns-in-Some-clause-memory c memory =
    HasPairs-from_line c.args.line.now c.in_ok-given.field-0 c.in-Some.given c.in_ok-given.ensures.said c.in-Some.is
