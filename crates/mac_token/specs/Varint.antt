-- Varints: numbers as unsigned LEB128 (DWARF 5, section 7.6), each in its shortest form.
use Rattle.std.specs.Prelude.{◌≡◌, ℕ, zero, suc, ◌+◌, ◌*◌, ◌/◌, ◌%◌, ◌<◌, ◌≤◌, List, [], ◌∷◌, nat_lt, if◌then◌else◌}

-- the groups of a number, k + 1 at most: seven bits each, lowest first, a high bit where more come
unfoldable pub groups : ℕ → ℕ → List ℕ
groups zero n = n ∷ []
groups (suc k) n = if nat_lt n 128 then n ∷ [] else (128 + n % 128) ∷ groups k (n / 128)

-- the varint of a number: its groups, of which there are never more than n + 1
unfoldable pub varint : ℕ → List ℕ
varint n = groups n n

-- the bytes are those of one number: the high bit is set on each byte but the last
abbrev pub IsLeb128 : List ℕ → Type 0
IsLeb128 [] = ⊥
IsLeb128 (last ∷ []) = last < 128
IsLeb128 (b ∷ c ∷ bytes) = (128 ≤ b) × (b < 256) × IsLeb128 (c ∷ bytes)

-- the number that the bytes stand for: seven bits a byte, the lowest first
abbrev pub number_of : List ℕ → ℕ
number_of [] = 0
number_of (b ∷ bytes) = b % 128 + 128 * number_of bytes

-- minimal: no zero stands last, unless it is the only byte
abbrev pub IsMinimal : List ℕ → Type 0
IsMinimal [] = ⊥
IsMinimal (only ∷ []) = Unit {0}
IsMinimal (b ∷ c ∷ []) = 0 < c
IsMinimal (b ∷ c ∷ d ∷ bytes) = IsMinimal (c ∷ d ∷ bytes)

-- the bytes are the one minimal list of groups for the number
pub record IsVarint (bytes : List ℕ) (n : ℕ) : Type 0 where
  pub one : IsLeb128 bytes
  pub minimal : IsMinimal bytes
  pub value : number_of bytes ≡ n
