use Rattle.std.proofs.Common.{◌≡◌, map, take}
use Rattle.serde_json.specs.Data.{boolean}
use Rattle.serde_json.specs.View.{view}
use Rattle.mac_token.specs.RawToken.{byte_lists}
use Rattle.mac_calls.specs.Judged.{holding}
use Rattle.mac_calls.proofs.judge.holding.Given as goal

abbrev pub invariant-loop-caveat : goal.invariant-loop-caveat
invariant-loop-caveat l =
    map view l.values.items ≡ map boolean (holding (byte_lists (take l.caveat-index l.caveats)) l.context)
