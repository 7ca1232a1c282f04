-- How a reply is printed for people.
use Rattle.std.specs.Prelude.{ℕ, List, [], ◌++◌, codes, slice_get, Option, Some, None, Result, Ok, Err}
use Rattle.std.specs.Fmt.{decimal}
use Rattle.mac_token.specs.RawToken.{TokenParts}
use Rattle.mac_token.specs.Read.{read_of}
use Rattle.mac_token.specs.declared.fault.TokenRefusal.{TokenRefusal}
use Rattle.mac_wire.specs.Reply.{refusal_code}
use Rattle.mac_wire.specs.declared.reply.Refusal.{Refusal}
use Rattle.mac_wire.specs.declared.reply.Refusal.TheVariants as refusal
use Rattle.mac_wire.specs.declared.reply.Reply.{Reply}
use Rattle.mac_wire.specs.declared.reply.Reply.TheVariants as reply
use Rattle.mac_words.specs.Escaped.{escaped}
use Rattle.mac_words.specs.TokenText.{token_text}

-- why a request is refused
abbrev pub reason : Refusal → List ℕ
reason refusal.BadRequest = codes "the words make no request"
reason refusal.FrameTooLong = codes "the request is too long"
reason refusal.UnknownKey = codes "the key file has no key of this name"
reason refusal.Transport = codes "the token is neither a bare form nor base64 text"
reason refusal.Malformed = codes "the bytes are in no form of a token"
reason refusal.ThirdParty = codes "a caveat of the token is third-party"
reason refusal.Limit = codes "a limit is passed"
reason refusal.BadSignature = codes "the key does not give the signature of the token"
reason refusal.CaveatLocation = codes "a first-party caveat of the token has a location"
reason refusal.NotAllowed = codes "the socket does not allow this request"
reason refusal.NoClock = codes "the clock tells no moment"
reason refusal.Revoked = codes "the token was taken back"

-- the refusal with its number
abbrev pub refusal_text : Refusal → List ℕ
refusal_text why = codes "refused "
    ++ (decimal (refusal_code why) ++ (codes ": " ++ reason why))

abbrev pub or_empty : Option (List ℕ) → List ℕ
or_empty (Some bytes) = bytes
or_empty None = []

-- the caveat at a place of the token that was read, counted from 0
abbrev pub caveat_at : Result TokenParts TokenRefusal → ℕ → List ℕ
caveat_at (Ok token) index = or_empty (slice_get token.caveats index)
caveat_at (Err why) index = []

-- the reply to a request about these bytes of a token, which a mint has none of
abbrev pub reply_text : List ℕ → Reply → List ℕ
reply_text token reply.Granted = codes "granted"
reply_text token (reply.GrantedTo identifier location) =
    codes "granted to " ++ (escaped identifier ++ (codes " at " ++ escaped location))
reply_text token (reply.Token made) = token_text made
reply_text token (reply.Refused why) = refusal_text why
reply_text token (reply.Unsatisfied index) = codes "refused 24: caveat " ++ (decimal index
    ++ (codes " is not satisfied: " ++ escaped (caveat_at (read_of token) index)))
