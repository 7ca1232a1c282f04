-- Whose turn it is among those that have a dear request.
use Rattle.std.specs.Prelude.{ℕ, ◌≤◌, ◌==◌, not, nat_lt, if◌then◌else◌, List, [], ◌∷◌, ◌++◌, count_by}
use Rattle.std.specs.List.{filter}

-- how many turns a slot has
abbrev pub times : ℕ → List ℕ → ℕ
times slot turns = count_by (λ other. other == slot) turns

-- no slot has two
abbrev pub IsOnce : List ℕ → Type 0
IsOnce turns = (slot : ℕ) → times slot turns ≤ 1

-- a slot has a turn behind the others', unless it had one
abbrev pub with_turn : List ℕ → ℕ → List ℕ
with_turn turns slot = if nat_lt 0 (times slot turns) then turns else turns ++ slot ∷ []

-- a slot has none
abbrev pub without_turn : List ℕ → ℕ → List ℕ
without_turn turns slot = filter (λ other. not (other == slot)) turns
