-- Which tokens need no signature computed again (this project's own).
use Rattle.std.specs.Prelude.{◌≡◌, ℕ, Bool, true, false, List, Result, Ok, Err}
use Rattle.std.specs.List.{AllZip}
use Rattle.mac_keys.specs.Keys.{listed}
use Rattle.mac_keys.specs.declared.keys.Keys.{Keys}
use Rattle.mac_token.specs.RawToken.{TokenParts}
use Rattle.mac_token.specs.Read.{read_of}
use Rattle.mac_token.specs.declared.fault.TokenRefusal.{TokenRefusal}
use Rattle.mac_wire.specs.declared.reply.Reply.{Reply}
use Rattle.mac_wire.specs.declared.reply.Reply.TheVariants as reply
use Rattle.mac_decide.specs.Asking.{asking_reply}
use Rattle.mac_decide.specs.Reading.{is_minted}
use Rattle.mac_decide.specs.declared.looking.Sight.{Sight}
use Rattle.mac_decide.specs.declared.part.KeyBytes.{KeyBytes}
use Rattle.mac_decide.specs.declared.looking.Sight.TheVariants as sight

-- the keys that have these bytes
abbrev pub keys_with : KeyBytes → Keys
keys_with bytes = record { first = bytes.first; second = bytes.second }

-- whether what was read is a token, and the chain of one of the keys gives its signature
abbrev pub is_minted_read : Keys → Result TokenParts TokenRefusal → Bool
is_minted_read keys (Ok t) = is_minted (listed keys) t
is_minted_read keys (Err reason) = false

-- whether the bytes spell such a token
abbrev pub is_minted_text : Keys → List ℕ → Bool
is_minted_text keys text = is_minted_read keys (read_of text)

-- the token is the one that the bytes spell, and the chain of one of the keys gives its signature
abbrev pub IsFound : Keys → List ℕ → TokenParts → Type 0
IsFound keys text t = (read_of text ≡ Ok t) × (is_minted (listed keys) t ≡ true)

-- the reply that is due: the one that is told at first sight, or the one that is asked for
abbrev pub due_of : Sight → Reply
due_of (sight.Told reply) = reply
due_of (sight.Asked asking) = asking_reply asking

-- what was prepared for what was seen comes to the reply that is asked for; one that is told needs
-- nothing prepared
abbrev pub IsReady : Sight → Reply → Type 0
IsReady (sight.Told reply) came = Unit {0}
IsReady (sight.Asked asking) came = came ≡ asking_reply asking

-- the same of each
abbrev pub AreReady : List Sight → List Reply → Type 0
AreReady = AllZip IsReady
