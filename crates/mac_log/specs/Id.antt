-- The ids of requests that a line tells.
use Rattle.std.specs.Prelude.{ℕ, ◌&&◌, nat_le, Bool, List, length}
use Rattle.mac_keys.specs.Line.{is_name}
use Rattle.mac_log.specs.declared.id.TheConstants.{ID_MAX}

-- Bytes that could name a key, and too few of them for a secret of 32 bytes: base64 spells one in 43
-- letters, hexadecimal digits in 64. So no signature stands there, and no token.
abbrev pub is_told_id : List ℕ → Bool
is_told_id id = is_name id && nat_le (length id) ID_MAX
