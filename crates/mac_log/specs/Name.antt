-- The names that a line tells.
use Rattle.std.specs.Prelude.{ℕ, ◌&&◌, ◌||◌, not, nat_eq, nat_lt, Bool, List, codes, length}
use Rattle.std.specs.List.{starts_with}
use Rattle.mac_keys.specs.Line.{is_name}
use Rattle.mac_log.specs.declared.name.TheConstants.{TOKEN_MIN}

-- A name that a key file may have, and no token in V1 or V2 binary that stands in its place. What base64
-- spells of V2 binary begins with `Ag`, and has 52 letters or more; what it spells of V1 is longer than a
-- name. What it spells of V2 JSON fits into a name only where all 32 bytes of the signature are letters.
abbrev pub is_told_name : List ℕ → Bool
is_told_name name =
    is_name name && (nat_lt (length name) TOKEN_MIN || not (starts_with nat_eq name (codes "Ag")))
