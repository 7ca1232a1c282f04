-- Secrets that are soon guessed.
use Rattle.std.specs.Prelude.{ℕ, Bool, List, false, length, nat_lt}
use Rattle.std.specs.Option.{option_map_or}
use Rattle.mac_keys.specs.Line.{fields_of}

-- a key line whose secret has fewer than 32 digits, two for each of 16 bytes
abbrev pub is_weak : List ℕ → Bool
is_weak line = option_map_or (λ fields. nat_lt (length fields.1) 32) (fields_of line) false
