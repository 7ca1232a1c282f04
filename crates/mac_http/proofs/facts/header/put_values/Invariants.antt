use Rattle.std.proofs.Common.{◌≡◌, ◌++◌, length, map}
use Rattle.mac_token.specs.RawToken.{byte_lists}
use Rattle.mac_http.proofs.facts.header.put_values.Given as goal

-- the facts so far, and those of the values that are left, are all
abbrev pub invariant-loop-value : goal.invariant-loop-value
invariant-loop-value l =
    byte_lists l.facts.items ++ map (λ v. v.bytes) l.left
    ≡ byte_lists l.fn.facts.items ++ map (λ v. v.bytes) l.fn.values

abbrev pub decreases-loop-value : goal.decreases-loop-value
decreases-loop-value l = length l.left
