-- Caveats added to a token, and another signature.
use Rattle.std.specs.Prelude.{◌≡◌, ℕ, List, ◌++◌, Result, Ok, Err}
use Rattle.mac_token.specs.declared.fault.TokenFault.{TokenFault}
use Rattle.mac_token.specs.declared.fault.TokenFault.TheVariants.{Refused, Memory}
use Rattle.mac_token.specs.RawToken.{TokenParts, token_parts}
use Rattle.mac_token.specs.Limits.{IsWithinLimits, token_or_limit}

-- the token with these caveats behind its own, and this signature
abbrev pub with_caveats : TokenParts → List (List ℕ) → List ℕ → TokenParts
with_caveats t caveats sig = token_parts t.location t.identifier (t.caveats ++ caveats) sig

-- the token with this signature
abbrev pub with_sig : TokenParts → List ℕ → TokenParts
with_sig t sig = token_parts t.location t.identifier t.caveats sig

-- the longer token is refused for this reason; or memory was, for a token within the limits
abbrev pub IsPushFault : TokenParts → TokenFault → Type 0
IsPushFault new (Refused refusal) = token_or_limit new ≡ Err refusal
IsPushFault new Memory = IsWithinLimits new

-- what a call that adds caveats answers: the longer token; after a fault the old one is handed back
abbrev pub Pushes : TokenParts → TokenParts → Result TokenParts (TokenFault × TokenParts) → Type 0
Pushes old new (Ok t) = token_or_limit new ≡ Ok t
Pushes old new (Err fault) = IsPushFault new fault.0 × (fault.1 ≡ old)
