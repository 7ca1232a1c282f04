-- The frames of replies as a stream of payloads.
use Rattle.std.proofs.Common.{◌≡◌, ℕ, ◌+◌, ◌^◌, ◌<◌, ◌≤◌, zero, suc, List, [], ◌∷◌, ◌++◌, length, map, take, drop, refl, sym, ap, ◌∙◌, arith, length-append}
use Rattle.std.specs.Int.{w16, w64, from_be_bytes, to_be_bytes}
use Rattle.std.specs.List.{AllByRecursion}
use Rattle.std.specs.Prelude.{Some, slice_get}
use Rattle.std.specs.Option.{option_map}
use Rattle.std.proofs.lemmas.List.Concat.{flat_map-cons}
use Rattle.std.proofs.lemmas.List.{take_at, drop_at}
use Rattle.std.proofs.lemmas.Nat.{from_be_bytes-to_be_bytes_8}
use Rattle.mac_wire.proofs.Replies.{one_reply}
use Rattle.mac_wire.specs.declared.arrival.Arrival.TheVariants as arrival
use Rattle.mac_wire.specs.declared.arrival.Ending.TheVariants as ending
use Rattle.mac_wire.specs.declared.arrival.TheConstants.{FRAME_MAX}
use Rattle.mac_wire.specs.declared.reply.Reply.{Reply}
use Rattle.mac_wire.specs.declared.reply.Reply.TheVariants as reply
use Rattle.mac_wire.specs.declared.version.Version.{Version}
use Rattle.mac_wire.specs.declared.version.Version.TheVariants as version
use Rattle.mac_wire.specs.Request.{long_field}
use Rattle.mac_wire.specs.Frame.{frame, framed, followed_by, frames_of}
use Rattle.mac_wire.specs.Reply.{IsReply, reply_payload, placed_payload, payloads_from}
use Rattle.mac_wire.proofs.Frames.{frames_of-nothing, frames_of-whole, IsWhole-frame}
use Rattle.mac_wire.proofs.Wholes.{Fits}

-- ---- payloads by their places

pub payloads-append : (v : Version) (place : ℕ) (a b : List Reply) → payloads_from v place (a ++ b) ≡ payloads_from v place a ++ payloads_from v (place + length a) b
unfolding payloads_from
payloads-append v place [] b = ap (λ (n : ℕ). payloads_from v n b) (omega arith)
payloads-append v place (r ∷ rs) b =
    ap (λ (l : List (List ℕ)). placed_payload v place r ∷ l) (payloads-append v (place + 1) rs b
    ∙ ap (λ (n : ℕ). payloads_from v (place + 1) rs ++ payloads_from v n b) (omega arith))

pub length-payloads : (v : Version) (place : ℕ) (rs : List Reply) → length (payloads_from v place rs) ≡ length rs
unfolding payloads_from
length-payloads v place [] = refl
length-payloads v place (r ∷ rs) = ap suc (length-payloads v (place + 1) rs)

pub payloads-take : (v : Version) (place n : ℕ) (rs : List Reply) → take n (payloads_from v place rs) ≡ payloads_from v place (take n rs)
unfolding payloads_from
payloads-take v place zero rs = refl
payloads-take v place (suc n) [] = refl
payloads-take v place (suc n) (r ∷ rs) = ap (λ (l : List (List ℕ)). placed_payload v place r ∷ l) (payloads-take v (place + 1) n rs)

-- the payload at a place is that of the reply there
pub payload-at : (v : Version) (place n : ℕ) (rs : List Reply) → slice_get (payloads_from v place rs) n ≡ option_map (placed_payload v (place + n)) (slice_get rs n)
unfolding payloads_from
payload-at v place n [] = refl
payload-at v place zero (r ∷ rs) = ap (λ (p : ℕ). Some (placed_payload v p r)) (omega arith)
payload-at v place (suc n) (r ∷ rs) = payload-at v (place + 1) n rs ∙ ap (λ (p : ℕ). option_map (placed_payload v p) (slice_get rs n)) (omega arith)

-- ---- their lengths

pub short_reply : (r : Reply) → IsReply r → 8 + length (reply_payload r) ≤ FRAME_MAX
short_reply reply.Granted h = omega arith
short_reply (reply.GrantedTo n l) h =
    omega (arith, h, length-append (long_field n) (long_field l), length-append (to_be_bytes w16 (length n)) n, length-append (to_be_bytes w16 (length l)) l)
short_reply (reply.Token t) h = omega arith
short_reply (reply.Refused n) h = omega arith
short_reply (reply.Unsatisfied i) h = omega arith

payload_fits : (v : Version) (place : ℕ) (r : Reply) → IsReply r → Fits (placed_payload v place r)
payload_fits version.One place r h = omega (arith, short_reply r h)
payload_fits version.Two place r h = omega (arith, short_reply r h, length-append (to_be_bytes w64 place) (reply_payload r))

pub payloads_fit : (v : Version) (place : ℕ) (rs : List Reply) → AllByRecursion IsReply rs → AllByRecursion Fits (payloads_from v place rs)
unfolding payloads_from
payloads_fit v place [] h = tt
payloads_fit v place (r ∷ rs) h = (payload_fits v place r h.0, payloads_fit v (place + 1) rs h.1)

-- ---- what a payload of version two tells

pub one_reply_and_its_place : (m n : ℕ) (a b : Reply) → m < 2 ^ 64 → n < 2 ^ 64 → IsReply a → IsReply b
    → placed_payload version.Two m a ≡ placed_payload version.Two n b → (m ≡ n) × (a ≡ b)
one_reply_and_its_place m n a b fits fits' is is' same =
    let front : to_be_bytes w64 m ≡ to_be_bytes w64 n =
    sym (take_at (to_be_bytes w64 m) (reply_payload a) 8 refl) ∙ ap (take 8) same ∙ take_at (to_be_bytes w64 n) (reply_payload b) 8 refl in
    let back : reply_payload a ≡ reply_payload b =
    sym (drop_at (to_be_bytes w64 m) (reply_payload a) 8 refl) ∙ ap (drop 8) same ∙ drop_at (to_be_bytes w64 n) (reply_payload b) 8 refl in
    (sym (from_be_bytes-to_be_bytes_8 m fits) ∙ ap (from_be_bytes w64) front ∙ from_be_bytes-to_be_bytes_8 n fits', one_reply a b is is' back)

-- ---- and what arrives of them

pub frames_of-framed : (payloads : List (List ℕ)) → AllByRecursion Fits payloads → frames_of (framed payloads) ≡ record { arrived = map (λ p. arrival.Payload p) payloads; ending = ending.Clean }
frames_of-framed [] h = frames_of-nothing
frames_of-framed (p ∷ ps) h =
    ap frames_of (flat_map-cons frame p ps)
    ∙ frames_of-whole (frame p) p (framed ps) (IsWhole-frame p h.0)
    ∙ ap (followed_by (arrival.Payload p ∷ [])) (frames_of-framed ps h.1)
