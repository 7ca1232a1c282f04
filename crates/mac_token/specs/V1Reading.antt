-- For proofs: what is read from V1 packets, as a function; law `v1_is_meant` ties it to `V1`.
use Rattle.std.specs.Prelude.{ℕ, zero, suc, ◌+◌, ◌*◌, ◌-◌, ◌==◌, ◌&&◌, nat_lt, nat_le, nat_eq, Bool, false, if◌then◌else◌, List, [], ◌∷◌, ◌++◌, length, take, drop, Option, Some, None}
use Rattle.std.specs.List.{starts_with}
use Rattle.mac_token.specs.declared.v1.key.PacketKey.{PacketKey}
use Rattle.mac_token.specs.declared.v1.key.PacketKey.TheVariants.{Location, Identifier, Cid, Vid, Cl, Signature}
use Rattle.mac_token.specs.RawToken.{CaveatParts, RawParts}
use Rattle.mac_token.specs.Location.{text_at}
use Rattle.mac_token.specs.Section.{SectionParts, caveat_said}
use Rattle.mac_token.specs.Steps.{◌>>=◌}
use Rattle.mac_token.specs.V1.{key_name}

-- the number of a lower-case hexadecimal digit
abbrev pub hex_value : ℕ → Option ℕ
hex_value b = if nat_le 48 b && nat_le b 57 then Some (b - 48)
    else if nat_le 97 b && nat_le b 102 then Some (b - 87) else None

-- the number of four of them
unfoldable pub hex_number : ℕ → ℕ → ℕ → ℕ → Option ℕ
hex_number a b c d = do
  h ← hex_value a
  i ← hex_value b
  j ← hex_value c
  k ← hex_value d
  Some (4096 * h + 256 * i + 16 * j + k)

-- what stands before a line feed, and what after it
abbrev pub line_end : List ℕ → List ℕ → Option (List ℕ × List ℕ)
line_end line [] = None
line_end line (b ∷ rest) = if b == 10 then Some (line, rest) else None

-- a packet of so many bytes: what stands between its digits and its line feed, and what follows it
abbrev pub line_of : ℕ → List ℕ → Option (List ℕ × List ℕ)
line_of n after = if nat_lt n 5 then None else if nat_lt (length after) (n - 5) then None
    else line_end (take (n - 5) after) (drop (n - 5) after)

unfoldable pub line_at : List ℕ → Option (List ℕ × List ℕ)
line_at (a ∷ b ∷ c ∷ d ∷ after) = do
  n ← hex_number a b c d
  line_of n after
line_at _ = None

-- a key's name and the space behind it
abbrev pub front_of : PacketKey → List ℕ
front_of key = key_name key ++ 32 ∷ []

-- the value of a packet with this key, and what follows it
unfoldable pub field_at : PacketKey → List ℕ → Option (List ℕ × List ℕ)
field_at key bytes = do
  line ← line_at bytes
  if starts_with nat_eq line.0 (front_of key)
      then Some (drop (length (front_of key)) line.0, line.1)
      else None

-- the next packet has this key
unfoldable pub has_key : PacketKey → List ℕ → Bool
has_key key (_ ∷ _ ∷ _ ∷ _ ∷ after) = starts_with nat_eq after (front_of key)
has_key key _ = false

-- the same where there is such a packet
unfoldable pub optional_at : PacketKey → List ℕ → Option (Option (List ℕ) × List ℕ)
optional_at key bytes = if has_key key bytes
    then (field_at key bytes >>= λ f. Some (Some f.0, f.1))
    else Some (None, bytes)

-- a caveat's fields
unfoldable pub section_at : List ℕ → Option (SectionParts × List ℕ)
section_at bytes = do
  identifier ← field_at Cid bytes
  vid ← optional_at Vid identifier.1
  location ← optional_at Cl vid.1
  Some (record { location = location.0; identifier = identifier.0; vid = vid.0 }, location.1)

-- a caveat
unfoldable pub caveat_at : List ℕ → Option (CaveatParts × List ℕ)
caveat_at bytes = do
  section ← section_at bytes
  caveat ← caveat_said section.0
  Some (caveat, section.1)

-- fewer than so many caveats, while the next packet is a caveat's
unfoldable pub caveats_at : ℕ → List ℕ → Option (List CaveatParts × List ℕ)
caveats_at zero bytes = None
caveats_at (suc n) bytes = if has_key Cid bytes
    then (caveat_at bytes >>= λ c. caveats_at n c.1 >>= λ cs. Some (c.0 ∷ cs.0, cs.1))
    else Some ([], bytes)

-- a signature of 32 bytes, and nothing after it
unfoldable pub signature_at : List ℕ → Option (List ℕ)
signature_at bytes = do
  signature ← field_at Signature bytes
  if length signature.0 == 32 && length signature.1 == 0 then Some signature.0 else None

-- all of the bytes
unfoldable pub v1_of : List ℕ → Option RawParts
v1_of bytes = do
  location ← field_at Location bytes
  text ← text_at location.0
  identifier ← field_at Identifier location.1
  caveats ← caveats_at (suc (length identifier.1)) identifier.1
  signature ← signature_at caveats.1
  Some (record { location = text; identifier = identifier.0; caveats = caveats.0; sig = signature })
