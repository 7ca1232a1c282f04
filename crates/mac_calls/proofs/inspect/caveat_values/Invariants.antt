use Rattle.std.proofs.Common.{◌≡◌, map, take}
use Rattle.serde_json.specs.View.{view}
use Rattle.mac_token.specs.RawToken.{byte_lists}
use Rattle.mac_calls.specs.Json.{caveat_object}
use Rattle.mac_calls.proofs.inspect.caveat_values.Given as goal

abbrev pub invariant-loop-caveat : goal.invariant-loop-caveat
invariant-loop-caveat l = map view l.values.items ≡ map caveat_object (byte_lists (take l.caveat-index l.caveats))
