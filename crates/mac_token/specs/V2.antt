-- V2 binary (libmacaroons): a token as sections of fields behind the version byte 2.
use Rattle.std.specs.Prelude.{◌≡◌, ℕ, List, [], ◌∷◌, ◌++◌, length, map, Option, Some, None}
use Rattle.std.specs.List.{flat_map}
use Rattle.mac_token.specs.Varint.{varint}
use Rattle.mac_token.specs.Location.{text_at}
use Rattle.mac_token.specs.RawToken.{RawParts, TokenParts}
use Rattle.mac_token.specs.Section.{SectionParts, location_bytes, caveat_said}
use Rattle.mac_token.specs.declared.v2.FieldType.{FieldType}
use Rattle.mac_token.specs.declared.v2.FieldType.TheVariants.{Location, Identifier, Vid, Signature}

-- the number of a field's type (libmacaroons)
abbrev pub type_number : FieldType → ℕ
type_number Location = 1
type_number Identifier = 2
type_number Vid = 4
type_number Signature = 6

-- a field: its type and its length as varints, and that many bytes
abbrev pub field : FieldType → List ℕ → List ℕ
field kind bytes = varint (type_number kind) ++ varint (length bytes) ++ bytes

-- a field that may be left out
abbrev pub optional : FieldType → Option (List ℕ) → List ℕ
optional kind None = []
optional kind (Some bytes) = field kind bytes

-- the end mark: the type 0 alone, without a length
abbrev pub end_mark : List ℕ
end_mark = varint 0

-- a section: a location or none, the identifier, a verifier's id or none, the end mark
abbrev pub section : SectionParts → List ℕ
section s =
    optional Location s.location ++ field Identifier s.identifier ++ optional Vid s.vid ++ end_mark

-- the version, the token's own section, its caveats', one more end mark, the signature, no more
abbrev pub sections : SectionParts → List SectionParts → List ℕ → List ℕ
sections head caveats sig =
    2 ∷ section head ++ flat_map section caveats ++ end_mark ++ field Signature sig

-- the bytes are the sections of this token, of which its own has no verifier's id
pub record V2 (bytes : List ℕ) (r : RawParts) : Type 0 where
  pub head : SectionParts
  pub caveats : List SectionParts
  pub spelled : bytes ≡ sections head caveats r.sig
  pub location : text_at (location_bytes head) ≡ Some r.location
  pub identifier : head.identifier ≡ r.identifier
  pub no_vid : head.vid ≡ None
  pub each : map caveat_said caveats ≡ map (λ c. Some c) r.caveats
  pub sig : length r.sig ≡ 32

-- how a location is written: left out where it is empty
abbrev pub written_location : List ℕ → Option (List ℕ)
written_location [] = None
written_location (b ∷ bytes) = Some (b ∷ bytes)

-- the section of a caveat, or of a token, without a verifier's id
abbrev pub written_section : Option (List ℕ) → List ℕ → SectionParts
written_section location identifier =
    record { location = location; identifier = identifier; vid = None }

-- the one list of bytes that is written for a token in this form
abbrev pub v2_bytes : TokenParts → List ℕ
v2_bytes t = sections (written_section (written_location t.location) t.identifier)
    (map (written_section None) t.caveats) t.sig
