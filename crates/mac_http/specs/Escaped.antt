-- The bytes of a token as the value of a field (this project's own).
use Rattle.std.specs.Prelude.{ℕ, List}
use Rattle.percent_encoding.specs.Percent.{percent_encode}
use Rattle.mac_http.specs.declared.escaped.TheConstants.{ESCAPED}

-- each byte that isn't visible ASCII, and each `%`, stands as `%` and two digits
abbrev pub escaped : List ℕ → List ℕ
escaped bytes = percent_encode ESCAPED bytes
