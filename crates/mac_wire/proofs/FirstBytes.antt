-- What is asked and told has its kind in front.
use Rattle.std.proofs.Common.{◌≡◌, ℕ, List, ◌++◌, length, Option, Some, refl, ap, ◌∙◌, arith, length-append}
use Rattle.std.specs.Int.{w64, byte_len, to_be_bytes}
use Rattle.std.proofs.lemmas.Bool.{le-ltb}
use Rattle.std.proofs.lemmas.List.{drop_at}
use Rattle.mac_wire.specs.declared.reply.Refusal.TheVariants as refusal
use Rattle.mac_wire.specs.declared.reply.Reply.{Reply}
use Rattle.mac_wire.specs.declared.reply.Reply.TheVariants as reply
use Rattle.mac_wire.specs.declared.request.Grant.TheVariants as grant
use Rattle.mac_wire.specs.declared.version.Version.{Version}
use Rattle.mac_wire.specs.declared.version.Version.TheVariants as version
use Rattle.mac_wire.specs.Reading.{◌>>=◌, behind_place, reply_kind_at, reply_kind_of, request_kind_of}
use Rattle.mac_wire.specs.Reply.{placed_payload, reply_payload}
use Rattle.mac_wire.specs.Reply as replies
use Rattle.mac_wire.specs.Request.{Asked, Asks, mint, attenuate, verify, verify_now, kind_of, payload_of}

front_kind : (q : Asked) → request_kind_of (payload_of q) ≡ Some (kind_of q)
unfolding request_kind_of
front_kind (mint f key location identifier caveats) = refl
front_kind (attenuate f token caveats) = refl
front_kind (verify key token moment facts) = refl
front_kind (verify_now grant.Bare key token facts) = refl
front_kind (verify_now grant.Owner key token facts) = refl

pub request_kind_of-asks : (payload : List ℕ) (q : Asked) → Asks payload q → request_kind_of payload ≡ Some (kind_of q)
request_kind_of-asks payload q h = ap request_kind_of h.is_payload ∙ front_kind q

reply_front : (r : Reply) → reply_kind_at (reply_payload r) ≡ Some (replies.kind_of r)
unfolding reply_kind_at
reply_front reply.Granted = refl
reply_front (reply.GrantedTo identifier location) = refl
reply_front (reply.Token bytes) = refl
reply_front (reply.Unsatisfied index) = refl
reply_front (reply.Refused refusal.BadRequest) = refl
reply_front (reply.Refused refusal.FrameTooLong) = refl
reply_front (reply.Refused refusal.UnknownKey) = refl
reply_front (reply.Refused refusal.Transport) = refl
reply_front (reply.Refused refusal.Malformed) = refl
reply_front (reply.Refused refusal.ThirdParty) = refl
reply_front (reply.Refused refusal.Limit) = refl
reply_front (reply.Refused refusal.BadSignature) = refl
reply_front (reply.Refused refusal.CaveatLocation) = refl
reply_front (reply.Refused refusal.NotAllowed) = refl
reply_front (reply.Refused refusal.NoClock) = refl
reply_front (reply.Refused refusal.Revoked) = refl

placed : (place : ℕ) (bytes : List ℕ) → behind_place version.Two (to_be_bytes w64 place ++ bytes) ≡ Some bytes
unfolding behind_place
placed place bytes =
    rw (le-ltb (length (to_be_bytes w64 place ++ bytes)) (byte_len w64) (omega (arith, length-append (to_be_bytes w64 place) bytes)), drop_at (to_be_bytes w64 place) bytes (byte_len w64) refl) refl

pub reply_kind_of-placed : (v : Version) (place : ℕ) (r : Reply) → reply_kind_of v (placed_payload v place r) ≡ Some (replies.kind_of r)
unfolding reply_kind_of behind_place
reply_kind_of-placed version.One place r = reply_front r
reply_kind_of-placed version.Two place r = ap (λ (bytes : Option (List ℕ)). bytes >>= reply_kind_at) (placed place (reply_payload r)) ∙ reply_front r
