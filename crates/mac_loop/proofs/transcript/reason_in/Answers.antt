use Rattle.std.proofs.Common.{◌≡◌, ◌∙◌, ◌++◌, ◌<◌, ◌^◌, List, [], ◌∷◌, Option, Some, None, ℕ, ap, append_assoc, refl, sym}
use Rattle.std.specs.Int.{to_be_bytes, w16}
use Rattle.std.specs.Option.{option_map}
use Rattle.mac_host.specs.declared.exchange.LoggedReason.TheVariants.{Caveat}
use Rattle.mac_wire.proofs.FirstBytes.{reply_kind_of-placed}
use Rattle.mac_wire.specs.Reading.{reply_kind_of}
use Rattle.mac_wire.specs.Reply.{IsReply, kind_of, place_bytes, placed_payload}
use Rattle.mac_wire.specs.declared.reply.Reply.{Reply}
use Rattle.mac_wire.specs.declared.reply.Reply.TheVariants as reply
use Rattle.mac_wire.specs.declared.version.Version.{Version}
use Rattle.mac_loop.specs.Reason.{reason_of, reason_told}
use Rattle.mac_loop.proofs.transcript.reason_in.Goals as goal

-- what a reply's kind tells, with the number in its last two bytes
told_by : (v : Version) (place : ℕ) (r : Reply) (payload : List ℕ) (index : Option ℕ) → IsReply r → payload ≡ placed_payload v place r
    → ((front : List ℕ) (number : ℕ) → number < 2 ^ 16 → payload ≡ front ++ to_be_bytes w16 number → index ≡ Some number)
    → reason_told (kind_of r) index ≡ reason_of r
told_by v place reply.Granted payload index is is_payload last = refl
told_by v place (reply.GrantedTo identifier location) payload index is is_payload last = refl
told_by v place (reply.Token bytes) payload index is is_payload last = refl
told_by v place (reply.Refused why) payload index is is_payload last = refl
told_by v place (reply.Unsatisfied i) payload index is is_payload last =
    ap (option_map Caveat) (last (place_bytes v place ++ (24 ∷ [])) i is (is_payload ∙ sym (append_assoc (place_bytes v place) (24 ∷ []) (to_be_bytes w16 i))))

pub returns-in-Some : goal.returns-in-Some
returns-in-Some c = λ place r is is_payload.
    let e : Some c.in-Some.told ≡ Some (kind_of r) =
    sym c.in-Some.is ∙ c.reply_kind.ensures ∙ ap (reply_kind_of c.args.version) is_payload ∙ reply_kind_of-placed c.args.version place r in
    let same : c.in-Some.told ≡ kind_of r = cc in
    c.reason_told.ensures ∙ ap (λ k. reason_told k c.last_number.result) same
    ∙ told_by c.args.version place r c.args.payload.now c.last_number.result is is_payload c.last_number.ensures

pub returns-in-None : goal.returns-in-None
returns-in-None c = λ place r is is_payload.
    let e : None ≡ Some (kind_of r) =
    sym c.in-None.is ∙ c.reply_kind.ensures ∙ ap (reply_kind_of c.args.version) is_payload ∙ reply_kind_of-placed c.args.version place r in
    absurd (cc)
