use Rattle.std.proofs.Common.{map, take}
use Rattle.std.specs.List.{AllZip}
use Rattle.serde_json.specs.View.{view}
use Rattle.mac_token.specs.Json.{IsCaveat}
use Rattle.mac_token.proofs.v2_json.reading.caveats_member.Given as goal

abbrev pub invariant-loop-item : goal.invariant-loop-item
invariant-loop-item l = AllZip IsCaveat (map view (take l.item-index l.item-items)) l.caveats.items
