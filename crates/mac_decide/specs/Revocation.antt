-- Which requests are about tokens that were taken back (this project's own).
use Rattle.std.specs.Prelude.{ℕ, List, Option, Some, None, Bool, false, Result, Ok, Err}
use Rattle.mac_keys.specs.Revoked.{Revoked, is_listed}
use Rattle.mac_token.specs.RawToken.{TokenParts}
use Rattle.mac_token.specs.Read.{read_of}
use Rattle.mac_token.specs.declared.fault.TokenRefusal.{TokenRefusal}
use Rattle.mac_wire.specs.Reading.{request_of}
use Rattle.mac_wire.specs.Request.{Asked, mint, attenuate, verify, verify_now}
use Rattle.mac_wire.specs.declared.arrival.Arrival.{Arrival}
use Rattle.mac_wire.specs.declared.arrival.Arrival.TheVariants as arrival
use Rattle.mac_decide.specs.declared.revocation.Revocation.{Revocation}
use Rattle.mac_decide.specs.declared.revocation.Revocation.TheVariants as revocation

-- whether what was read is a token of this name that was taken back
abbrev pub is_listed_read : Revoked → List ℕ → Result TokenParts TokenRefusal → Bool
is_listed_read list name (Ok t) = is_listed list name t.identifier
is_listed_read list name (Err reason) = false

-- whether a request is about such a token: a verify alone is about a token of a name
abbrev pub is_revoked : Revoked → Asked → Bool
is_revoked list (mint form name location identifier caveats) = false
is_revoked list (attenuate form token caveats) = false
is_revoked list (verify name token moment facts) = is_listed_read list name (read_of token)
is_revoked list (verify_now g name token facts) = is_listed_read list name (read_of token)

-- the same of what a payload asks
abbrev pub is_asked_revoked : Revoked → Option Asked → Bool
is_asked_revoked list None = false
is_asked_revoked list (Some request) = is_revoked list request

-- what an arrival asks
abbrev pub asked_in : Arrival → Option Asked
asked_in arrival.Oversize = None
asked_in (arrival.Payload payload) = request_of payload

-- the same of an arrival
abbrev pub is_arrival_revoked : Revoked → Arrival → Bool
is_arrival_revoked list a = is_asked_revoked list (asked_in a)

-- ---- as it is known or looked up

abbrev pub tells_revoked : Revocation → List ℕ → List ℕ → Bool
tells_revoked (revocation.Known known) name identifier = known
tells_revoked (revocation.In list) name identifier = is_listed list.now name identifier

abbrev pub request_revoked : Revocation → Asked → Bool
request_revoked (revocation.Known known) request = known
request_revoked (revocation.In list) request = is_revoked list.now request

abbrev pub asked_revoked : Revocation → Option Asked → Bool
asked_revoked (revocation.Known known) asked = known
asked_revoked (revocation.In list) asked = is_asked_revoked list.now asked
