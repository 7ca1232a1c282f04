-- What a line tells of a token that was minted.
use Rattle.std.specs.Prelude.{ℕ, List, if◌then◌else◌}
use Rattle.mac_log.specs.Fields.{FieldsText, with_field}
use Rattle.mac_log.specs.Name.{is_told_name}
use Rattle.mac_log.specs.declared.key.Key.TheVariants.{Identifier, Name}

-- the name of its key, where a line tells it
abbrev pub with_name : FieldsText → List ℕ → FieldsText
with_name fields name = if is_told_name name then with_field fields Name name else fields

-- the name, and the identifier as far as there is room for it
abbrev pub with_minted : FieldsText → List ℕ → List ℕ → FieldsText
with_minted fields name identifier = with_field (with_name fields name) Identifier identifier
