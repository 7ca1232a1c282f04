-- V1 packets (libmacaroons, packet.c and macaroons.c).
use Rattle.std.specs.Prelude.{◌≡◌, ◌≢◌, ◌⊎◌, ℕ, ◌+◌, ◌/◌, ◌%◌, ◌<◌, ◌^◌, List, [], ◌∷◌, ◌++◌, length, map, codes, slice_index, Option, Some, None}
use Rattle.std.specs.List.{flat_map, AllByRecursion}
use Rattle.std.specs.Str.{IsUtf8}
use Rattle.mac_token.specs.declared.v1.key.PacketKey.{PacketKey}
use Rattle.mac_token.specs.declared.v1.key.PacketKey.TheVariants.{Location, Identifier, Cid, Vid, Cl, Signature}
use Rattle.mac_token.specs.RawToken.{CaveatParts, RawParts, TokenParts, raw_of}

-- the name of a packet's key
abbrev pub key_name : PacketKey → List ℕ
key_name Location = codes "location"
key_name Identifier = codes "identifier"
key_name Cid = codes "cid"
key_name Vid = codes "vid"
key_name Cl = codes "cl"
key_name Signature = codes "signature"

-- the lower-case hexadecimal digit of a number below 16
abbrev pub hex_digit : ℕ → ℕ
hex_digit d = slice_index (codes "0123456789abcdef") d

-- four hexadecimal digits, the highest first
abbrev pub hex_digits : ℕ → List ℕ
hex_digits n = hex_digit (n / 4096 % 16) ∷ hex_digit (n / 256 % 16) ∷ hex_digit (n / 16 % 16)
    ∷ hex_digit (n % 16) ∷ []

-- a key and its value
pub record Field : Type 0 where
  pub key : PacketKey
  pub value : List ℕ

-- how many bytes a packet has: its four digits, the key's name, a space, the value, a line feed
abbrev pub packet_length : Field → ℕ
packet_length f = 4 + length (key_name f.key) + 1 + length f.value + 1

-- a packet: its own length in four digits, the key's name, a space, the value, a line feed
unfoldable pub packet : Field → List ℕ
packet f = hex_digits (packet_length f) ++ (key_name f.key ++ (32 ∷ f.value ++ 10 ∷ []))

-- four digits hold the packet's length
abbrev pub HasLength : Field → Type 0
HasLength f = packet_length f < 2 ^ 16

-- the verifier's id of a caveat, where there is one
abbrev pub vid_fields : Option (List ℕ) → List Field
vid_fields None = []
vid_fields (Some vid) = record { key = Vid; value = vid } ∷ []

-- the location of a caveat: none is no field or an empty one; else it is UTF-8
abbrev pub AreLocationFields : Option (List ℕ) → List Field → Type 0
AreLocationFields None fields = (fields ≡ []) ⊎ (fields ≡ record { key = Cl; value = [] } ∷ [])
AreLocationFields (Some location) fields =
    (location ≢ []) × IsUtf8 location × (fields ≡ record { key = Cl; value = location } ∷ [])

-- a caveat: its bytes, the verifier's id, the location, in this order
abbrev pub AreCaveatFields : CaveatParts → List Field → Type 0
AreCaveatFields c fields = (location : List Field) × AreLocationFields c.location location
    × (fields ≡ record { key = Cid; value = c.id } ∷ vid_fields c.vid ++ location)

-- caveats, one after the other
abbrev pub AreCaveatsFields : List CaveatParts → List Field → Type 0
AreCaveatsFields [] fields = fields ≡ []
AreCaveatsFields (c ∷ cs) fields = (first : List Field) × (others : List Field)
    × AreCaveatFields c first × AreCaveatsFields cs others × (fields ≡ first ++ others)

-- a token: location, identifier, the caveats, the signature, each once and in this order
abbrev pub fields_round : RawParts → List Field → List Field
fields_round r caveats = record { key = Location; value = r.location }
    ∷ record { key = Identifier; value = r.identifier } ∷ caveats
    ++ record { key = Signature; value = r.sig } ∷ []

-- the bytes are the joined packets of a token whose location is UTF-8, its signature of 32 bytes
pub record V1 (bytes : List ℕ) (r : RawParts) : Type 0 where
  pub caveats : List Field
  pub are_caveats : AreCaveatsFields r.caveats caveats
  pub location : IsUtf8 r.location
  pub sig : length r.sig ≡ 32
  pub lengths : AllByRecursion HasLength (fields_round r caveats)
  pub joined : bytes ≡ flat_map packet (fields_round r caveats)

-- a first-party caveat is one field
abbrev pub caveat_field : List ℕ → Field
caveat_field caveat = record { key = Cid; value = caveat }

-- what is written for a token: the packets of its fields, an empty location among them
abbrev pub v1_bytes : TokenParts → List ℕ
v1_bytes t = flat_map packet (fields_round (raw_of t) (map caveat_field t.caveats))
