-- What is logged of a request.
use Rattle.std.specs.Prelude.{ℕ, if◌then◌else◌, List, [], take, Option, Some, None, Result, Ok, Err}
use Rattle.mac_log.specs.Id.{is_told_id}
use Rattle.mac_log.specs.Name.{is_told_name}
use Rattle.mac_token.specs.RawToken.{TokenParts}
use Rattle.mac_token.specs.declared.fault.TokenRefusal.{TokenRefusal}
use Rattle.mac_host.specs.declared.exchange.TheConstants.{IDENTIFIER_NOTED}

-- a name that a line may tell, and else none
abbrev pub told_name : List ℕ → List ℕ
told_name name = if is_told_name name then name else []

-- an id that a line may tell, and else none
abbrev pub told_id : Option (List ℕ) → Option (List ℕ)
told_id None = None
told_id (Some id) = if is_told_id id then Some id else None

-- what is noted of the identifier of a token that was read, if one was
abbrev pub noted_identifier : Result TokenParts TokenRefusal → Option (List ℕ)
noted_identifier (Ok t) = Some (take IDENTIFIER_NOTED t.identifier)
noted_identifier (Err reason) = None
