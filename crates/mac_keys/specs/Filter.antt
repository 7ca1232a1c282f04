-- Which identifiers may be in a list, by one byte each (this project's own). The hash is std's.
use Rattle.std.specs.Prelude.{◌≡◌, ℕ, ◌+◌, ◌*◌, ◌/◌, ◌%◌, ◌^◌, ◌||◌, nat_eq, Bool, true, if◌then◌else◌, List, length, Option, Some, None}
use Rattle.std.specs.List.{slice_get}
use Rattle.std.specs.Hash.FoldHasher as folding
use Rattle.mac_keys.specs.Revoked.{Revoked, is_listed}

-- the hash of an identifier
abbrev pub hash_of : List ℕ → ℕ
hash_of identifier = folding.finish (folding.write folding.initial identifier)

-- the place, among so many, that a hash says by its upper half
abbrev pub place_of : ℕ → ℕ → ℕ
place_of places hash = ((hash / 2 ^ 32) * places) % 2 ^ 64 / 2 ^ 32

-- the tag that it says
abbrev pub tag_of : ℕ → ℕ
tag_of hash = hash % 128 + 1

-- what follows a byte where a tag comes: 0 is free, and 255 says that several came
abbrev pub after_tag : ℕ → ℕ → ℕ
after_tag byte tag = if nat_eq byte 0 || nat_eq byte tag then tag else 255

-- whether what stands at a place lets the tag pass; where there is no place, it does
abbrev pub admits : Option ℕ → ℕ → Bool
admits None tag = true
admits (Some byte) tag = nat_eq byte tag || nat_eq byte 255

-- whether an identifier with this hash may have come, by the bytes of all places
abbrev pub may_have : List ℕ → ℕ → Bool
may_have bytes hash = admits (slice_get bytes (place_of (length bytes) hash)) (tag_of hash)

-- each identifier of a list may have come, by these bytes
abbrev pub AdmitsAll : Revoked → List ℕ → Type 0
AdmitsAll list bytes = (name identifier : List ℕ) → is_listed list name identifier ≡ true
    → may_have bytes (hash_of identifier) ≡ true
