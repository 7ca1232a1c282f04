-- Of which identifiers the tokens are that were verified on a connection.
use Rattle.std.specs.Prelude.{◌≡◌, ℕ, Bool, true, false, ◌==◌, if◌then◌else◌, List, take, Option, Some, None, option_and_then, Ok}
use Rattle.mac_decide.specs.Answer.{keys_of}
use Rattle.mac_decide.specs.Minted.{Minted}
use Rattle.mac_decide.specs.Terms.{Terms}
use Rattle.mac_host.specs.Exchange.{noted_identifier}
use Rattle.mac_host.specs.declared.exchange.TheConstants.{IDENTIFIER_NOTED}
use Rattle.mac_keys.specs.Keys.{listed}
use Rattle.mac_keys.specs.declared.keys.Keys.{Keys}
use Rattle.mac_token.specs.RawToken.{TokenParts}
use Rattle.mac_token.specs.Read.{read_of}
use Rattle.mac_wire.specs.Reading.{request_of}
use Rattle.mac_wire.specs.Reply.{refusal_code}
use Rattle.mac_wire.specs.Request.{Asked, key_of, mint, attenuate, verify, verify_now}
use Rattle.mac_wire.specs.declared.arrival.Arrival.{Arrival}
use Rattle.mac_wire.specs.declared.arrival.Arrival.TheVariants as arrival
use Rattle.mac_wire.specs.declared.reply.Refusal.TheVariants as refusal
use Rattle.mac_wire.specs.declared.reply.ReplyKind.{ReplyKind}
use Rattle.mac_wire.specs.declared.reply.ReplyKind.TheVariants as kind

-- the token that a request is to verify, if it is to verify one
abbrev pub token_of : Asked → Option (List ℕ)
token_of (mint form key location identifier caveats) = None
token_of (attenuate form token caveats) = None
token_of (verify key token moment facts) = Some token
token_of (verify_now grant key token facts) = Some token

-- the same of a payload
abbrev pub token_verified : List ℕ → Option (List ℕ)
token_verified payload = option_and_then token_of (request_of payload)

-- what is noted of that token's identifier
abbrev pub identifier_verified : List ℕ → Option (List ℕ)
identifier_verified payload =
    option_and_then (λ token. noted_identifier (read_of token)) (token_verified payload)

-- the same of an arrival, where such identifiers are logged
abbrev pub verified_in : Bool → Arrival → Option (List ℕ)
verified_in true (arrival.Payload payload) = identifier_verified payload
verified_in true arrival.Oversize = None
verified_in false a = None

-- the identifier of the token that was verified, where the reply says that a key gives its
-- signature: it is granted, a caveat isn't satisfied, or it was taken back, which are told behind
-- the signature
abbrev pub verified_by : Option (List ℕ) → ReplyKind → Option (List ℕ)
verified_by asked kind.Granted = asked
verified_by asked kind.Unsatisfied = asked
verified_by asked kind.Token = None
verified_by asked (kind.Refused code) =
    if code == refusal_code refusal.Revoked then asked else None

-- a key of the name that a request is about gives the signature of the token that it is to verify,
-- which has this identifier
pub record IsSigned (terms : Terms) (request : Asked) (identifier : List ℕ) : Type 0 where
  pub name : List ℕ
  pub is_named : key_of request ≡ Some name
  pub keys : Keys
  pub has_keys : keys_of terms name ≡ Some keys
  pub bytes : List ℕ
  pub is_brought : token_of request ≡ Some bytes
  pub token : TokenParts
  pub is_read : read_of bytes ≡ Ok token
  pub minted : Minted (listed keys) token
  pub is_told : identifier ≡ take IDENTIFIER_NOTED token.identifier
