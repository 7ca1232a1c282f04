-- What is told where a token may have been taken back.
use Rattle.std.proofs.Common.{◌≡◌, ℕ, List, Option, Some, Result, Ok, Err, Bool, true, false, Bor, refl, sym, ap, ◌∙◌}
use Rattle.std.specs.Option.{option_copied}
use Rattle.std.proofs.lemmas.Bool.{false≢true}
use Rattle.mac_keys.specs.Revoked.{Revoked, is_listed}
use Rattle.mac_keys.specs.declared.keys.Keys.{Keys}
use Rattle.mac_token.specs.RawToken.{TokenParts}
use Rattle.mac_token.specs.declared.fault.TokenRefusal.{TokenRefusal}
use Rattle.mac_wire.specs.Reply.{IsReply}
use Rattle.mac_wire.specs.Request.{Asked, asked}
use Rattle.mac_wire.specs.declared.reply.Refusal.{Refusal}
use Rattle.mac_wire.specs.declared.reply.Refusal.TheVariants as refusal
use Rattle.mac_wire.specs.declared.reply.Reply.{Reply}
use Rattle.mac_wire.specs.declared.reply.Reply.TheVariants as reply
use Rattle.mac_wire.specs.declared.request.Request.{Request}
use Rattle.mac_wire.specs.declared.request.Request.TheVariants as request
use Rattle.mac_decide.specs.Answer.{asked_reply, refused, request_reply, tells_minted, unless_revoked, with_owner}
use Rattle.mac_decide.specs.Asking.{asking_reply}
use Rattle.mac_decide.specs.Revocation.{asked_revoked, is_listed_read, request_revoked}
use Rattle.mac_decide.specs.declared.asking.Asking.{Asking}
use Rattle.mac_decide.specs.declared.revocation.Revocation.{Revocation}
use Rattle.mac_decide.specs.declared.revocation.Revocation.TheVariants.{Known, In}

-- ---- what such a reply says of the other

pub kept-refused : (b : Bool) (why : Refusal) → unless_revoked b (refused why) ≡ refused why
kept-refused true why = refl
kept-refused false why = refl

pub kept-granted : (b : Bool) (r : Reply) → unless_revoked b r ≡ reply.Granted → (r ≡ reply.Granted) × (b ≡ false)
kept-granted false r e = (e, refl)
kept-granted true reply.Granted e = absurd (cc)
kept-granted true (reply.GrantedTo identifier location) e = absurd (cc)
kept-granted true (reply.Unsatisfied index) e = absurd (cc)
kept-granted true (reply.Token bytes) e = absurd (cc)
kept-granted true (reply.Refused why) e = absurd (cc)

pub kept-owner : (b : Bool) (r : Reply) (i l : List ℕ) → unless_revoked b r ≡ reply.GrantedTo i l → (r ≡ reply.GrantedTo i l) × (b ≡ false)
kept-owner false r i l e = (e, refl)
kept-owner true reply.Granted i l e = absurd (cc)
kept-owner true (reply.GrantedTo identifier location) i l e = absurd (cc)
kept-owner true (reply.Unsatisfied index) i l e = absurd (cc)
kept-owner true (reply.Token bytes) i l e = absurd (cc)
kept-owner true (reply.Refused why) i l e = absurd (cc)

pub kept-token : (b : Bool) (r : Reply) (bytes : List ℕ) → unless_revoked b r ≡ reply.Token bytes → r ≡ reply.Token bytes
kept-token false r bytes e = e
kept-token true reply.Granted bytes e = absurd (cc)
kept-token true (reply.GrantedTo identifier location) bytes e = absurd (cc)
kept-token true (reply.Unsatisfied index) bytes e = absurd (cc)
kept-token true (reply.Token other) bytes e = e
kept-token true (reply.Refused why) bytes e = e

pub kept-minted : (b : Bool) (r : Reply) → tells_minted (unless_revoked b r) ≡ true → tells_minted r ≡ true
kept-minted false r e = e
kept-minted true reply.Granted e = refl
kept-minted true (reply.GrantedTo identifier location) e = refl
kept-minted true (reply.Unsatisfied index) e = refl
kept-minted true (reply.Token bytes) e = e
kept-minted true (reply.Refused why) e = e

pub kept-sent : (b : Bool) (r : Reply) → IsReply r → IsReply (unless_revoked b r)
kept-sent false r sent = sent
kept-sent true reply.Granted sent = tt
kept-sent true (reply.GrantedTo identifier location) sent = tt
kept-sent true (reply.Unsatisfied index) sent = tt
kept-sent true (reply.Token bytes) sent = sent
kept-sent true (reply.Refused why) sent = tt

pub kept-with_owner : (read : Result TokenParts TokenRefusal) (b : Bool) (r : Reply) → unless_revoked b (with_owner read r) ≡ with_owner read (unless_revoked b r)
kept-with_owner (Err reason) b r = refl
kept-with_owner (Ok t) false r = refl
kept-with_owner (Ok t) true reply.Granted = refl
kept-with_owner (Ok t) true (reply.GrantedTo identifier location) = refl
kept-with_owner (Ok t) true (reply.Unsatisfied index) = refl
kept-with_owner (Ok t) true (reply.Token bytes) = refl
kept-with_owner (Ok t) true (reply.Refused why) = refl

-- what is refused as revoked tells that it was taken back, where nothing else is told so
pub kept-revoked : (b : Bool) (r : Reply) → ¬ (r ≡ refused refusal.Revoked) → unless_revoked b r ≡ refused refusal.Revoked → (b ≡ true) × (tells_minted r ≡ true)
kept-revoked false r other e = absurd (other e)
kept-revoked true reply.Granted other e = (refl, refl)
kept-revoked true (reply.GrantedTo identifier location) other e = (refl, refl)
kept-revoked true (reply.Unsatisfied index) other e = (refl, refl)
kept-revoked true (reply.Token bytes) other e = absurd (other e)
kept-revoked true (reply.Refused why) other e = absurd (other e)

pub kept-told : (b : Bool) (r : Reply) → b ≡ true → tells_minted r ≡ true → unless_revoked b r ≡ refused refusal.Revoked
kept-told false r is tells = absurd (false≢true is)
kept-told true reply.Granted is tells = refl
kept-told true (reply.GrantedTo identifier location) is tells = refl
kept-told true (reply.Unsatisfied index) is tells = refl
kept-told true (reply.Token bytes) is tells = absurd (false≢true tells)
kept-told true (reply.Refused why) is tells = absurd (false≢true tells)

-- ---- where it is looked up

-- the reply that is asked for, by its request, its keys and its moment
abbrev due : Asking → Request → Option (Bor Keys) → Option ℕ → Reply
due a q keys moment = request_reply (asked q) (record {
  keys = option_copied keys;
  is_revoked = request_revoked a.revoked (asked q);
  may_mint = a.may_mint;
  moment = moment;
})

-- a name without identifiers has none of a token
pub without-read : (list : Revoked) (name : List ℕ) (read : Result TokenParts TokenRefusal) → ((identifier : List ℕ) → is_listed list name identifier ≡ false) → false ≡ is_listed_read list name read
without-read list name (Ok t) none = sym (none t.identifier)
without-read list name (Err reason) none = refl

-- ---- what a payload asks

same_asked : (revoked : Revocation) (q : Asked) → request_revoked revoked q ≡ asked_revoked revoked (Some q)
same_asked (Known known) q = refl
same_asked (In list) q = refl

-- a request that was parsed is answered as its payload is
pub asking-parsed : (a : Asking) (o : Option Asked) → o ≡ Some (asked a.request)
    → asking_reply a ≡ asked_reply o (record { keys = option_copied a.keys; is_revoked = asked_revoked a.revoked o; may_mint = a.may_mint; moment = a.moment })
asking-parsed a o is =
    ap (λ (b : Bool). request_reply (asked a.request) (record { keys = option_copied a.keys; is_revoked = b; may_mint = a.may_mint; moment = a.moment })) (same_asked a.revoked (asked a.request))
    ∙ ap (λ (p : Option Asked). asked_reply p (record { keys = option_copied a.keys; is_revoked = asked_revoked a.revoked p; may_mint = a.may_mint; moment = a.moment })) (sym is)
