use Rattle.std.proofs.Common.{◌≡◌, ◌≤◌, ◌*◌, ◌+◌, length, take, map}
use Rattle.std.specs.List.{flat_map}
use Rattle.mac_token.specs.RawToken.{byte_lists}
use Rattle.mac_token.specs.V1.{packet, caveat_field}
use Rattle.mac_token.specs.declared.limits.TheConstants.{CAVEAT_MAX}
use Rattle.mac_token.proofs.v1.writing.caveats_len.Given as goal

-- the packets so far, and that no caveat passes its limit
abbrev pub invariant-loop-caveat : goal.invariant-loop-caveat
invariant-loop-caveat l = (l.len ≡ length (flat_map packet (map caveat_field (byte_lists (take l.caveat-index l.caveats))))) × (l.len ≤ l.caveat-index * (CAVEAT_MAX + 9))
