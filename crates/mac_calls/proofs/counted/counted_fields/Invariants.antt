use Rattle.std.proofs.Common.{◌≡◌, ◌∷◌, length, take}
use Rattle.std.specs.List.{flat_map}
use Rattle.mac_token.specs.RawToken.{byte_lists}
use Rattle.mac_wire.specs.Request.{long_field}
use Rattle.mac_calls.proofs.counted.counted_fields.Given as goal

abbrev pub invariant-loop-fact : goal.invariant-loop-fact
invariant-loop-fact l =
    l.counted.items ≡ length l.facts ∷ flat_map long_field (byte_lists (take l.fact-index l.facts))
