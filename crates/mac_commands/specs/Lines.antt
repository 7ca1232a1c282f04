-- The lines of a pipe's input, and the parts that an empty line divides it into.
use Rattle.std.specs.Prelude.{ℕ, ◌==◌, Bool, if◌then◌else◌, List, [], ◌∷◌, length}
use Rattle.std.specs.List.{onto_first, before_first, after_first, join_with_byte}

-- the lines of a text: each ends in a line feed, which the last may lack
unfoldable pub lines : List ℕ → List (List ℕ)
lines [] = []
lines (byte ∷ rest) = if byte == 10 then [] ∷ lines rest else onto_first byte (lines rest)

abbrev pub is_empty : List ℕ → Bool
is_empty line = length line == 0

-- the lines before the first empty one, as one text
abbrev pub key_text : List ℕ → List ℕ
key_text input = join_with_byte 10 (before_first is_empty (lines input))

-- the lines after the first empty one
abbrev pub request_lines : List ℕ → List (List ℕ)
request_lines input = after_first is_empty (lines input)
