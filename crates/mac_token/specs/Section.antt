-- The fields of a caveat, or of a token's own section in V2 binary, as they stand in the bytes.
use Rattle.std.specs.Prelude.{ℕ, List, [], Option, unwrap_or, option_map}
use Rattle.mac_token.specs.Location.{location_at}
use Rattle.mac_token.specs.RawToken.{CaveatParts}

-- the fields, an empty location among them
pub record SectionParts : Type 0 where
  pub location : Option (List ℕ)
  pub identifier : List ℕ
  pub vid : Option (List ℕ)

-- the bytes of the location; where there is none they are empty
abbrev pub location_bytes : SectionParts → List ℕ
location_bytes s = unwrap_or s.location []

-- what the fields say as a caveat's: an empty location counts as absent, another is UTF-8
abbrev pub caveat_said : SectionParts → Option CaveatParts
caveat_said s = option_map
    (λ location. record { id = s.identifier; vid = s.vid; location = location })
    (location_at (location_bytes s))
