-- Why a call is refused, in words (this project's own).
use Rattle.std.specs.Prelude.{ℕ, List, codes}
use Rattle.mac_calls.specs.declared.fault.BodyFault.{BodyFault}
use Rattle.mac_calls.specs.declared.fault.BodyFault.TheVariants.{NoObject, UnknownMember, Identifier, Base64, Location, Caveats, NoCaveat, Form, Token, Facts, ManyFacts, Moment}
use Rattle.mac_calls.specs.declared.fault.CallFault.{CallFault}
use Rattle.mac_calls.specs.declared.fault.CallFault.TheVariants.{Refused, Memory}
use Rattle.mac_calls.specs.declared.fault.CallRefusal.TheVariants as refusal
use Rattle.mac_token.specs.declared.fault.TokenFault.{TokenFault}
use Rattle.mac_token.specs.declared.fault.TokenFault.TheVariants as token_fault
use Rattle.mac_wire.specs.declared.reply.Refusal.{Refusal}
use Rattle.mac_wire.specs.declared.reply.Refusal.TheVariants as wire
use Rattle.mac_decide.specs.Answer.{refusal_of}

-- why a body is none of its call
abbrev pub body_reason : BodyFault → List ℕ
body_reason NoObject = codes "the body is no JSON object"
body_reason UnknownMember = codes "the body has a member that the call does not have"
body_reason Identifier = codes "there is to be one text, identifier or identifier64"
body_reason Base64 = codes "identifier64 is no base64url text"
body_reason Location = codes "the location is no text"
body_reason Caveats = codes "the caveats are no list of texts"
body_reason NoCaveat = codes "there is no caveat to add"
body_reason Form = codes "the form is none of v1-text, v2-text and v2-json"
body_reason Token = codes "there is no text that is the token"
body_reason Facts = codes "the facts are no list of texts"
body_reason ManyFacts = codes "the facts are more or longer than a request may have"
body_reason Moment = codes "there is no number of seconds that is the moment"

-- why a request is refused
abbrev pub reason : Refusal → List ℕ
reason wire.BadRequest = codes "the body makes no request"
reason wire.FrameTooLong = codes "the request is too long"
reason wire.UnknownKey = codes "no key has the name"
reason wire.Transport = codes "the token is neither a bare form nor base64 text"
reason wire.Malformed = codes "the bytes are in no form of a token"
reason wire.ThirdParty = codes "a caveat of the token is third-party"
reason wire.Limit = codes "the token passes a limit"
reason wire.BadSignature = codes "the key does not give the signature of the token"
reason wire.CaveatLocation = codes "a first-party caveat of the token has a location"
reason wire.NotAllowed = codes "the address does not allow this request"
reason wire.NoClock = codes "the clock tells no moment"
reason wire.Revoked = codes "the token was taken back"

-- a fault of a token, as one of a call
abbrev pub fault_of_token : TokenFault → CallFault
fault_of_token (token_fault.Refused why) = Refused (refusal.Token (refusal_of why))
fault_of_token token_fault.Memory = Memory
