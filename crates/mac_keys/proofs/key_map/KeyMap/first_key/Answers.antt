use Rattle.std.proofs.Common.{◌≡◌, refl, arith}
use Rattle.std.specs.FinMap as map
use Rattle.mac_keys.proofs.Names.{len-seen}
use Rattle.mac_keys.proofs.FaultLemmas.{fault_of_keys-full, fault_of_keys-room}
use Rattle.mac_keys.proofs.key_map.KeyMap.first_key.Goals as goal

pub returns-then-len-ge-NAMES_MAX : goal.returns-then-len-ge-NAMES_MAX
returns-then-len-ge-NAMES_MAX c =
    let counted : map.len c.args.self.now ≡ c.len.result = len-seen c.self.inside.keys.entries _ _ c.self.view_is c.len.ensures.ordered c.len.ensures.len in
    fault_of_keys-full _ (omega arith)

pub returns : goal.returns
returns c =
    let counted : map.len c.args.self.now ≡ c.len.result = len-seen c.self.inside.keys.entries _ _ c.self.view_is c.len.ensures.ordered c.len.ensures.len in
    (fault_of_keys-room _ (omega arith), rw c.root_key.ensures refl)
