-- Hash values after the first block of a message (FIPS 180-4, section 6.2.2).
use Rattle.std.specs.Prelude.{◌≡◌, ℕ, List, [], ◌∷◌, length, slice_index}
use Rattle.sha2.specs.Sha256.{compress, initial_hash_256}

-- the hash value after this block, a message's first
pub record IsBegun (hash block : List ℕ) : Type 0 where
  pub whole : length block ≡ 64
  pub is : hash ≡ compress initial_hash_256 block

-- the eight words of a hash value
abbrev pub listed : List ℕ → List ℕ
listed h =
    slice_index h 0 ∷ slice_index h 1 ∷ slice_index h 2 ∷ slice_index h 3
    ∷ slice_index h 4 ∷ slice_index h 5 ∷ slice_index h 6 ∷ slice_index h 7 ∷ []
