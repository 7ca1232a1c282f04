-- What a terminal prints and does not obey.
use Rattle.std.specs.Prelude.{ℕ, ◌≤◌}

-- a byte of printable ASCII, the space among them
abbrev pub IsPrinted : ℕ → Type 0
IsPrinted byte = (32 ≤ byte) × (byte ≤ 126)
