-- The numbers of the refusals on the wire.
use Rattle.std.specs.Prelude.{ℕ, Option, Some, None}
use Rattle.mac_token.specs.declared.fault.TokenFault.{TokenFault}
use Rattle.mac_token.specs.declared.fault.TokenFault.TheVariants.{Refused, Memory}
use Rattle.mac_token.specs.declared.fault.TokenRefusal.{TokenRefusal}
use Rattle.mac_token.specs.declared.fault.TokenRefusal.TheVariants.{Transport, Malformed, ThirdParty, Limit, CaveatLocation}

-- the number of a refusal in this project's replies
abbrev pub refusal_code : TokenRefusal → ℕ
refusal_code Transport = 19
refusal_code Malformed = 20
refusal_code ThirdParty = 21
refusal_code Limit = 22
refusal_code CaveatLocation = 26

-- the number of a fault; want of memory is no refusal and has none
abbrev pub fault_code : TokenFault → Option ℕ
fault_code (Refused refusal) = Some (refusal_code refusal)
fault_code Memory = None
