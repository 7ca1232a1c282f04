-- Values of a line.
use Rattle.std.specs.Prelude.{ℕ, ◌==◌, ◌&&◌, nat_le, not, Bool, if◌then◌else◌, List, [], ◌∷◌, ◌++◌, length}
use Rattle.std.specs.List.{flat_map, list_all}
use Rattle.hex.specs.Hex.{encode_lower}

-- printable ASCII but for the quotation mark, 34, the equals sign, 61, and the backslash, 92
abbrev pub is_shown : ℕ → Bool
is_shown byte = nat_le 32 byte && nat_le byte 126 && not (byte == 34) && not (byte == 61) && not (byte == 92)

-- the same but for the space, 32
abbrev pub is_bare_byte : ℕ → Bool
is_bare_byte byte = not (byte == 32) && is_shown byte

-- a value that is one word
abbrev pub is_bare : List ℕ → Bool
is_bare value = nat_le 1 (length value) && list_all is_bare_byte value

-- a byte as itself, or as a backslash, an x and two digits
abbrev pub escaped_byte : ℕ → List ℕ
escaped_byte byte = if is_shown byte then byte ∷ [] else 92 ∷ 120 ∷ encode_lower (byte ∷ [])

abbrev pub escaped : List ℕ → List ℕ
escaped value = flat_map escaped_byte value

-- a value as it is, or escaped between quotation marks
abbrev pub value_text : List ℕ → List ℕ
value_text value = if is_bare value then value else 34 ∷ (escaped value ++ 34 ∷ [])
