-- Locations: texts, of which the empty one counts as absent.
use Rattle.std.specs.Prelude.{ℕ, List, [], ◌∷◌, Option, Some, None, if◌then◌else◌}
use Rattle.std.specs.Str.{is_utf8}

-- the bytes, where they are UTF-8 (RFC 3629)
abbrev pub text_at : List ℕ → Option (List ℕ)
text_at bytes = if is_utf8 bytes then Some bytes else None

-- a caveat's location: none where there are no bytes, else the bytes, where they are UTF-8
abbrev pub location_at : List ℕ → Option (Option (List ℕ))
location_at [] = Some None
location_at (b ∷ bs) = if is_utf8 (b ∷ bs) then Some (Some (b ∷ bs)) else None
