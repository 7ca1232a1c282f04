-- Which tokens were minted on a connection.
use Rattle.std.specs.Prelude.{ℕ, List, Option, Some, None, option_and_then}
use Rattle.mac_wire.specs.Reading.{request_of}
use Rattle.mac_wire.specs.Request.{Asked, mint}
use Rattle.mac_wire.specs.declared.reply.ReplyKind.{ReplyKind}
use Rattle.mac_wire.specs.declared.reply.ReplyKind.TheVariants.{Token}

-- the identifier of the token that a request is to mint, if it is one
abbrev pub identifier_of : Asked → Option (List ℕ)
identifier_of (mint form key location identifier caveats) = Some identifier
identifier_of _ = None

-- the same of a payload
abbrev pub identifier_asked : List ℕ → Option (List ℕ)
identifier_asked payload = option_and_then identifier_of (request_of payload)

-- the identifier of the token that was minted: the one that was asked for, where the reply brings it
abbrev pub minted_by : Option (List ℕ) → ReplyKind → Option (List ℕ)
minted_by asked Token = asked
minted_by asked _ = None
