-- The key name in the front of a payload. The format is this project's own.
use Rattle.std.specs.Prelude.{◌≡◌, ◌⊎◌, ℕ, List, ◌∷◌, ◌++◌}
use Rattle.mac_wire.specs.Request.{short_field}

-- the numbers of verifies: at a moment, at the clock, and at the clock with whose the token is
abbrev pub IsVerifyKind : ℕ → Type 0
IsVerifyKind kind = (kind ≡ 3) ⊎ ((kind ≡ 4) ⊎ (kind ≡ 5))

-- behind a mint's number and any one byte stands the name, and then anything
pub record HasMintName (payload name : List ℕ) : Type 0 where
  pub form : ℕ
  pub rest : List ℕ
  pub parts : payload ≡ 1 ∷ form ∷ (short_field name ++ rest)

-- behind a verify's number stands the name, and then anything
pub record HasVerifyName (payload name : List ℕ) : Type 0 where
  pub kind : ℕ
  pub is_kind : IsVerifyKind kind
  pub rest : List ℕ
  pub parts : payload ≡ kind ∷ (short_field name ++ rest)

-- this name is in the payload's front
abbrev pub HasName : (payload name : List ℕ) → Type 0
HasName payload name = HasMintName payload name ⊎ HasVerifyName payload name
