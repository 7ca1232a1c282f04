-- How long a peer may still take.
use Rattle.std.specs.Prelude.{◌≡◌, ◌+◌, ◌<◌, ◌≤◌, ℕ, Option, Some, None}

-- of a limit, once so long has passed, so much is left, or nothing
abbrev pub IsLeft : ℕ → ℕ → Option ℕ → Type 0
IsLeft limit passed None = limit ≤ passed
IsLeft limit passed (Some left) = (left + passed ≡ limit) × (0 < left)
