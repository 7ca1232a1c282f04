-- What a writer's answer says against the bytes that it is to write.
use Rattle.std.specs.Prelude.{◌≡◌, ◌<◌, ◌≤◌, ℕ, List, length, Result, Ok, Err}
use Rattle.std.specs.declared.alloc.Global.{Global}
use Rattle.std.specs.declared.vec.Vec.{Vec}
use Rattle.mac_token.specs.declared.fault.TokenFault.{TokenFault}
use Rattle.mac_token.specs.declared.fault.TokenFault.TheVariants.{Refused, Memory}
use Rattle.mac_token.specs.declared.fault.TokenRefusal.TheVariants.{Limit}
use Rattle.mac_token.specs.declared.limits.TheConstants.{TOKEN_MAX}

-- these bytes; Limit exactly where they pass a token's greatest length, want of memory aside
abbrev pub Writes : List ℕ → Result (Vec ℕ Global) TokenFault → Type 0
Writes bytes (Ok written) = (written.items ≡ bytes) × (length bytes ≤ TOKEN_MAX)
Writes bytes (Err (Refused Limit)) = TOKEN_MAX < length bytes
Writes bytes (Err (Refused _)) = ⊥
Writes bytes (Err Memory) = Unit {0}
