-- How much memory a daemon has for its connections.
use Rattle.std.specs.Prelude.{ℕ, ◌/◌, max, min}

-- half of what the system allows, from 64 MiB to a tebibyte
abbrev pub half_of_memory : ℕ → ℕ
half_of_memory told = min (max (told / 2) 67108864) 1099511627776
