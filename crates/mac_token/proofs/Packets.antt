-- How long packets are.
use Rattle.std.proofs.Common.{◌≡◌, ℕ, ◌+◌, ◌<◌, ◌≤◌, List, [], ◌∷◌, ◌++◌, map, length, get_or, take, arith, length-append}
use Rattle.std.proofs.lemmas.List.{map-append, length-map, get_or-map}
use Rattle.std.proofs.lemmas.List.Concat.{flat_map-append}
use Rattle.std.specs.List.{flat_map}
use Rattle.std.specs.declared.alloc.Global.{Global}
use Rattle.std.specs.declared.vec.Vec.{Vec}
use Rattle.mac_token.specs.declared.limits.TheConstants.{CAVEAT_MAX}
use Rattle.mac_token.specs.declared.v1.key.PacketKey.TheVariants.{Location, Identifier, Signature}
use Rattle.mac_token.specs.RawToken.{TokenParts, byte_lists}
use Rattle.mac_token.specs.Limits.{AreShort}
use Rattle.mac_token.specs.V1.{Field, key_name, packet, packet_length, hex_digits, caveat_field, v1_bytes}
use Rattle.mac_token.proofs.Lists.{byte_lists_more}

-- a packet has as many bytes as its digits say
pub length-packet : (f : Field) → length (packet f) ≡ packet_length f
unfolding packet
length-packet f = omega (arith, length-append (hex_digits (packet_length f)) (key_name f.key ++ (32 ∷ f.value ++ 10 ∷ [])), length-append (key_name f.key) (32 ∷ f.value ++ 10 ∷ []), length-append (32 ∷ f.value) (10 ∷ []))

-- the packets of some caveats
abbrev pub caveat_packets : List (List ℕ) → List ℕ
caveat_packets caveats = flat_map packet (map caveat_field caveats)

pub caveat_packets-push : (caveats : List (List ℕ)) (c : List ℕ) → caveat_packets (caveats ++ c ∷ []) ≡ caveat_packets caveats ++ (packet (caveat_field c) ++ [])
caveat_packets-push caveats c =
    rw (map-append caveat_field caveats (c ∷ []), flat_map-append packet (map caveat_field caveats) (caveat_field c ∷ []))

-- one caveat more is as many bytes more as its packet has
pub length-caveat_packets-more : (buffers : List (Vec ℕ Global)) (i : ℕ) (buffer : Vec ℕ Global) → i < length buffers → buffer ≡ get_or buffers i buffer
    → length (caveat_packets (byte_lists (take (i + 1) buffers))) ≡ length (caveat_packets (byte_lists (take i buffers))) + packet_length (caveat_field buffer.items)
length-caveat_packets-more buffers i buffer below is =
    let so_far = byte_lists (take i buffers) in
    let more = byte_lists_more buffers i buffer below is in
    let pushed = caveat_packets-push so_far buffer.items in
    rw (more, pushed) (omega (arith, length-append (caveat_packets so_far) (packet (caveat_field buffer.items) ++ []), length-append (packet (caveat_field buffer.items)) [], length-packet (caveat_field buffer.items)))

-- a caveat among short ones is short
pub short_at : (buffers : List (Vec ℕ Global)) (i : ℕ) (buffer : Vec ℕ Global) → i < length buffers → buffer ≡ get_or buffers i buffer → AreShort (byte_lists buffers) → length buffer.items ≤ CAVEAT_MAX
short_at buffers i buffer below is short =
    let bound = short i buffer.items (rw (length-map buffers (λ (b : Vec ℕ Global). b.items)) below) in
    let same : get_or (byte_lists buffers) i buffer.items ≡ (get_or buffers i buffer).items = get_or-map (λ (b : Vec ℕ Global). b.items) buffers i buffer buffer.items below in
    rw (is, ← same) bound

-- the bytes of a token's packets, part by part
pub length-v1_bytes : (t : TokenParts) → length (v1_bytes t) ≡ packet_length (record { key = Location; value = t.location }) + packet_length (record { key = Identifier; value = t.identifier })
    + length (caveat_packets t.caveats) + packet_length (record { key = Signature; value = t.sig })
length-v1_bytes t =
    let location : Field = record { key = Location; value = t.location } in
    let identifier : Field = record { key = Identifier; value = t.identifier } in
    let signature : Field = record { key = Signature; value = t.sig } in
    let end = packet signature ++ [] in
    rw (flat_map-append packet (map caveat_field t.caveats) (signature ∷ []))
    (omega (
      arith,
      length-append (packet location) (packet identifier ++ (caveat_packets t.caveats ++ end)),
      length-append (packet identifier) (caveat_packets t.caveats ++ end),
      length-append (caveat_packets t.caveats) end,
      length-append (packet signature) [],
      length-packet location,
      length-packet identifier,
      length-packet signature,
    ))

pub ruleset v1_lengths = (length-v1_bytes)
