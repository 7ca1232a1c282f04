-- For proofs: what stands at the front of bytes in V2 binary, and the bytes after it.
use Rattle.std.specs.Prelude.{◌≡◌, ℕ, zero, suc, ◌+◌, ◌*◌, ◌%◌, List, [], ◌∷◌, ◌++◌, length, map, take, drop, Option, Some, None, nat_lt, ◌==◌, ◌&&◌, is_none, if◌then◌else◌}
use Rattle.std.specs.List.{flat_map}
use Rattle.mac_token.specs.RawToken.{CaveatParts}
use Rattle.mac_token.specs.Steps.{◌>>=◌}
use Rattle.mac_token.specs.V2.{type_number, section, end_mark}
use Rattle.mac_token.specs.Section.{SectionParts, caveat_said}
use Rattle.mac_token.specs.declared.v2.FieldType.{FieldType}
use Rattle.mac_token.specs.declared.v2.FieldType.TheVariants.{Location, Identifier, Vid, Signature}

-- a number whose low part was read before: the rest counts unit times, and is 0 only at unit 1
unfoldable pub varint_with : ℕ → ℕ → Option (ℕ × List ℕ) → Option (ℕ × List ℕ)
varint_with low unit None = None
varint_with low unit (Some (zero, rest)) = if nat_lt 1 unit then None else Some (low, rest)
varint_with low unit (Some (suc n, rest)) = Some (low + unit * suc n, rest)

-- a number in its shortest form
unfoldable pub varint_at : List ℕ → Option (ℕ × List ℕ)
varint_at [] = None
varint_at (b ∷ bytes) =
    if nat_lt b 128 then Some (b, bytes) else varint_with (b % 128) 128 (varint_at bytes)

-- a length, and that many bytes
unfoldable pub counted_at : List ℕ → Option (List ℕ × List ℕ)
counted_at bytes = do
  n ← varint_at bytes
  if nat_lt (length n.1) n.0 then None else Some (take n.0 n.1, drop n.0 n.1)

-- a field of this type
unfoldable pub field_at : FieldType → List ℕ → Option (List ℕ × List ℕ)
field_at kind [] = None
field_at kind (b ∷ bytes) = if b == type_number kind then counted_at bytes else None

-- a field that may be left out: it is there where its type comes next
unfoldable pub optional_at : FieldType → List ℕ → Option (Option (List ℕ) × List ℕ)
optional_at kind [] = Some (None, [])
optional_at kind (b ∷ bytes) = if b == type_number kind
    then (counted_at bytes >>= λ value. Some (Some value.0, value.1))
    else Some (None, b ∷ bytes)

-- the end mark
unfoldable pub end_at : List ℕ → Option (List ℕ)
end_at [] = None
end_at (zero ∷ rest) = Some rest
end_at (suc b ∷ rest) = None

-- a section
unfoldable pub section_at : List ℕ → Option (SectionParts × List ℕ)
section_at bytes = do
  location ← optional_at Location bytes
  identifier ← field_at Identifier location.1
  vid ← optional_at Vid identifier.1
  rest ← end_at vid.1
  Some (record { location = location.0; identifier = identifier.0; vid = vid.0 }, rest)

-- a section without a verifier's id
abbrev pub without_vid : SectionParts × List ℕ → Option (SectionParts × List ℕ)
without_vid head = if is_none head.0.vid then Some head else None

-- the version byte 2, and the token's own section
unfoldable pub head_at : List ℕ → Option (SectionParts × List ℕ)
head_at [] = None
head_at (version ∷ bytes) =
    if version == 2 then (section_at bytes >>= λ head. without_vid head) else None

-- a signature's field of 32 bytes, up to the end
unfoldable pub signature_at : List ℕ → Option (List ℕ)
signature_at bytes = do
  sig ← field_at Signature bytes
  if (length sig.0 == 32) && (length sig.1 == 0) then Some sig.0 else None

-- the sections of these caveats, the end mark, and what follows
pub record AreCaveats (bytes : List ℕ) (caveats : List CaveatParts) (rest : List ℕ) : Type 0 where
  pub parts : List SectionParts
  pub spelled : bytes ≡ flat_map section parts ++ end_mark ++ rest
  pub each : map caveat_said parts ≡ map (λ c. Some c) caveats
