-- The part of a padded message (FIPS 180-4, section 5.1.1) that follows its first block.
use Rattle.std.specs.Prelude.{◌≡◌, ℕ, ◌+◌, ◌*◌, ◌<◌, List, ◌++◌, drop, if◌then◌else◌, length, nat_lt, take}
use Rattle.sha2.specs.Sha256.{compress, padding}

-- a text that follows one block, and the padding of the message that both make
unfoldable pub padded_text : List ℕ → List ℕ
padded_text text = text ++ padding (64 + length text)

-- where so many follow, block `index` of those after the first one of a message whose text this is
abbrev pub IsBlock : List ℕ → ℕ → List ℕ → Type 0
IsBlock text index block = 64 * index < length (padded_text text)
    → block ≡ take 64 (drop (64 * index) (padded_text text))

-- the hash value h with block `index` after the first one of a message, where it has so many
unfoldable pub after_block : List ℕ → List ℕ → ℕ → List ℕ
after_block h text index = if nat_lt (64 * index) (length (padded_text text))
    then compress h (take 64 (drop (64 * index) (padded_text text))) else h
