-- The token that a call brings, as an `Authorization` would (this project's own).
use Rattle.std.specs.Prelude.{ℕ, List}
use Rattle.mac_token.specs.RawToken.{TokenParts}
use Rattle.mac_token.specs.Read.{read_of}
use Rattle.mac_calls.specs.Steps.{Step, of_token}

-- the token that a text spells
abbrev pub received : List ℕ → Step TokenParts
received text = of_token (read_of text)
