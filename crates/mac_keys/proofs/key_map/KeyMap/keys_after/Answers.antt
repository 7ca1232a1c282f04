use Rattle.std.proofs.Common.{Option, subst}
use Rattle.std.specs.FinMap as map
use Rattle.mac_hmac.specs.Chain.{root_of}
use Rattle.mac_keys.specs.declared.keys.Keys.{Keys}
use Rattle.mac_keys.specs.Table.{fault_of_keys}
use Rattle.mac_keys.specs.Taken.{keys_with, Gets}
use Rattle.mac_keys.proofs.key_map.KeyMap.keys_after.Goals as goal

pub returns-in-Some : goal.returns-in-Some
returns-in-Some c =
    subst (λ (keys : Option Keys). Gets c.second_key.result (fault_of_keys (map.len c.args.self.now) keys) (keys_with keys (root_of c.args.secret.now)))
    c.in-Some.ensures (c.second_key.ensures (map.len c.args.self.now))
