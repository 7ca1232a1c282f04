use Rattle.std.proofs.Common.{◌≡◌}
use Rattle.serde_json.specs.View.{members_view}
use Rattle.mac_calls.specs.Object.{are_known}
use Rattle.mac_calls.proofs.object.are_known.Given as goal

-- all that was looked at is known, so the rest decides
abbrev pub invariant-loop-name : goal.invariant-loop-name
invariant-loop-name l =
    are_known l.call (members_view l.name-iterator) ≡ are_known l.call (members_view l.members.entries)
