-- Replies, and their payloads and frames. The format is this project's own.
use Rattle.std.specs.Prelude.{ℕ, ◌+◌, ◌<◌, ◌≤◌, ◌^◌, List, [], ◌∷◌, ◌++◌, length, map}
use Rattle.std.specs.Int.{w16, w64, to_be_bytes}
use Rattle.mac_wire.specs.declared.arrival.Arrival.{Arrival}
use Rattle.mac_wire.specs.declared.arrival.Arrival.TheVariants as arrival
use Rattle.mac_wire.specs.declared.reply.Refusal.{Refusal}
use Rattle.mac_wire.specs.declared.reply.Refusal.TheVariants as refusal
use Rattle.mac_wire.specs.declared.reply.Reply.{Reply}
use Rattle.mac_wire.specs.declared.reply.Reply.TheVariants as reply
use Rattle.mac_wire.specs.declared.reply.ReplyKind.{ReplyKind}
use Rattle.mac_wire.specs.declared.reply.ReplyKind.TheVariants as reply_kind
use Rattle.mac_wire.specs.declared.reply.TheConstants.{REPLY_TOKEN_MAX}
use Rattle.mac_wire.specs.declared.version.Version.{Version}
use Rattle.mac_wire.specs.declared.version.Version.TheVariants as version
use Rattle.mac_wire.specs.Frame.{frame, framed}
use Rattle.mac_wire.specs.Request.{long_field}

-- the number of a refusal
abbrev pub refusal_code : Refusal → ℕ
refusal_code refusal.BadRequest = 16
refusal_code refusal.FrameTooLong = 17
refusal_code refusal.UnknownKey = 18
refusal_code refusal.Transport = 19
refusal_code refusal.Malformed = 20
refusal_code refusal.ThirdParty = 21
refusal_code refusal.Limit = 22
refusal_code refusal.BadSignature = 23
refusal_code refusal.CaveatLocation = 26
refusal_code refusal.NotAllowed = 27
refusal_code refusal.NoClock = 28
refusal_code refusal.Revoked = 29

-- what a reply tells, whatever it carries besides
abbrev pub kind_of : Reply → ReplyKind
kind_of reply.Granted = reply_kind.Granted
kind_of (reply.GrantedTo identifier location) = reply_kind.Granted
kind_of (reply.Token bytes) = reply_kind.Token
kind_of (reply.Refused reason) = reply_kind.Refused (refusal_code reason)
kind_of (reply.Unsatisfied index) = reply_kind.Unsatisfied

-- what can be sent: a token isn't longer than a reply carries, nor are an identifier and a location
-- together, and an index fits two bytes
abbrev pub IsReply : Reply → Type 0
IsReply reply.Granted = Unit {0}
IsReply (reply.GrantedTo identifier location) =
    length identifier + length location ≤ REPLY_TOKEN_MAX
IsReply (reply.Token bytes) = length bytes ≤ REPLY_TOKEN_MAX
IsReply (reply.Refused reason) = Unit {0}
IsReply (reply.Unsatisfied index) = index < 2 ^ 16

-- the payload of a reply: its number, and then the token's bytes, its identifier and location, or
-- the index in two bytes
abbrev pub reply_payload : Reply → List ℕ
reply_payload reply.Granted = 0 ∷ []
reply_payload (reply.GrantedTo identifier location) =
    3 ∷ (long_field identifier ++ long_field location)
reply_payload (reply.Token bytes) = 1 ∷ bytes
reply_payload (reply.Refused reason) = refusal_code reason ∷ []
reply_payload (reply.Unsatisfied index) = 24 ∷ to_be_bytes w16 index

-- what stands before a reply in its frame: in version two its place, the high byte first
abbrev pub place_bytes : Version → ℕ → List ℕ
place_bytes version.One place = []
place_bytes version.Two place = to_be_bytes w64 place

-- the payload of the frame of the reply at a place
abbrev pub placed_payload : Version → ℕ → Reply → List ℕ
placed_payload v place r = place_bytes v place ++ reply_payload r

-- the whole frame of the reply at a place
abbrev pub reply_frame : Version → ℕ → Reply → List ℕ
reply_frame v place r = frame (placed_payload v place r)

-- the payloads of the frames of replies, the first of which is at this place
unfoldable pub payloads_from : Version → ℕ → List Reply → List (List ℕ)
payloads_from v place [] = []
payloads_from v place (r ∷ rs) = placed_payload v place r ∷ payloads_from v (place + 1) rs

-- the payloads of the frames of all replies to a stream, the n-th with place n, from 0 on
abbrev pub reply_payloads : Version → List Reply → List (List ℕ)
reply_payloads v replies = payloads_from v 0 replies

-- the frames of all replies to a stream, one after the other
abbrev pub reply_text : Version → List Reply → List ℕ
reply_text v replies = framed (reply_payloads v replies)

-- what a reader of the frames has of them
abbrev pub reply_arrivals : Version → List Reply → List Arrival
reply_arrivals v replies = map (λ p. arrival.Payload p) (reply_payloads v replies)
