-- Tokens as mathematics: what is spelled, and what of it is a token.
use Rattle.std.specs.Prelude.{◌≡◌, ℕ, List, map, length, string_bytes, option_map, Option, None, All}
use Rattle.std.specs.Str.{IsUtf8}
use Rattle.base64.specs.GeneralPurpose.{IsBytes}
use Rattle.std.specs.declared.alloc.Global.{Global}
use Rattle.std.specs.declared.vec.Vec.{Vec}
use Rattle.std.specs.declared.string.String.{String}

-- a caveat as it is spelled: its bytes, the verifier's id where it is third-party, and a location
pub record CaveatParts : Type 0 where
  pub id : List ℕ
  pub vid : Option (List ℕ)
  pub location : Option (List ℕ)

-- a token as it is spelled (libmacaroons: location, identifier, caveats, signature)
pub record RawParts : Type 0 where
  pub location : List ℕ
  pub identifier : List ℕ
  pub caveats : List CaveatParts
  pub sig : List ℕ

-- a token of first-party caveats alone (NDSS 2014): a caveat is its bytes
pub record TokenParts : Type 0 where
  pub location : List ℕ
  pub identifier : List ℕ
  pub caveats : List (List ℕ)
  pub sig : List ℕ

-- a token by its four parts
abbrev pub token_parts : List ℕ → List ℕ → List (List ℕ) → List ℕ → TokenParts
token_parts location identifier caveats sig =
    record { location = location; identifier = identifier; caveats = caveats; sig = sig }

-- the bytes in each of these buffers
abbrev pub byte_lists : List (Vec ℕ Global) → List (List ℕ)
byte_lists buffers = map (λ buffer. buffer.items) buffers

-- the bytes in a buffer that may be absent
abbrev pub bytes_of : Option (Vec ℕ Global) → Option (List ℕ)
bytes_of buffer = option_map (λ b. b.items) buffer

-- the bytes of a text that may be absent
abbrev pub text_of : Option (String Global) → Option (List ℕ)
text_of text = option_map (λ t. string_bytes t) text

-- a first-party caveat as it is spelled: neither a verifier's id nor a location
abbrev pub first_party : List ℕ → CaveatParts
first_party caveat = record { id = caveat; vid = None; location = None }

-- a token as it is spelled
abbrev pub raw_of : TokenParts → RawParts
raw_of t = record {
  location = t.location;
  identifier = t.identifier;
  caveats = map first_party t.caveats;
  sig = t.sig;
}

-- what each `Token` is: its parts are bytes, its location is text, its signature has 32 bytes
pub record IsToken (t : TokenParts) : Type 0 where
  pub location : IsUtf8 t.location
  pub location_bytes : IsBytes t.location
  pub identifier : IsBytes t.identifier
  pub caveats : All IsBytes t.caveats
  pub sig : IsBytes t.sig
  pub sig_length : length t.sig ≡ 32
