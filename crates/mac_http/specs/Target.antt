-- What a path names (this project's own).
use Rattle.std.specs.Prelude.{ℕ, Bool, ◌==◌, position, unwrap_or, option_map, List, length, take, drop, codes, bytes_eq, Option, Some, None, if◌then◌else◌}

-- what stands behind a front, if the text begins so
abbrev pub behind_front : List ℕ → List ℕ → Option (List ℕ)
behind_front front text =
    if bytes_eq (take (length front) text) front then Some (drop (length front) text) else None

abbrev pub is_slash : ℕ → Bool
is_slash b = b == 47

-- how many bytes stand before the first slash
abbrev pub segment_length : List ℕ → ℕ
segment_length text = unwrap_or (position is_slash text) (length text)

-- the name of a key, and what stands behind it, in a path that asks for a verify
abbrev pub target_in : List ℕ → Option (List ℕ × List ℕ)
target_in path =
    option_map (λ rest. (take (segment_length rest) rest, drop (segment_length rest) rest))
    (behind_front (codes "/verify/") path)
