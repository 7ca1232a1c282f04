-- A list of fields, where they lie in a payload.
use Rattle.std.specs.Prelude.{◌≡◌, ℕ, List, [], length}
use Rattle.std.specs.List.{flat_map}
use Rattle.std.specs.Option.{unwrap_or}
use Rattle.mac_wire.specs.Request.{long_field, AreFields}
use Rattle.mac_wire.specs.Reading.{list_at}

-- the fields that some bytes are, each behind its length
abbrev pub fields_of : ℕ → List ℕ → List (List ℕ)
fields_of count bytes = unwrap_or (list_at count bytes) []

-- the bytes are that many fields, and nothing else
pub record IsFieldList (count : ℕ) (bytes : List ℕ) : Type 0 where
  pub counted : length (fields_of count bytes) ≡ count
  pub fit : AreFields (fields_of count bytes)
  pub parts : bytes ≡ flat_map long_field (fields_of count bytes)
