-- A line of a key file, as it is made.
use Rattle.std.specs.Prelude.{◌≡◌, ℕ, List, [], ◌∷◌, ◌++◌, codes, IsTrue, None, Result, Ok, Err}
use Rattle.std.specs.FinMap.{from_entries}
use Rattle.std.specs.declared.alloc.Global.{Global}
use Rattle.std.specs.declared.vec.Vec.{Vec}
use Rattle.hex.specs.Hex.{encode_lower}
use Rattle.mac_hmac.specs.Chain.{root_of}
use Rattle.mac_keys.specs.Change.{IsKeyLine}
use Rattle.mac_keys.specs.Line.{is_name}
use Rattle.mac_keys.specs.Keys.{NamedKeys}
use Rattle.mac_keys.specs.Table.{table_of}
use Rattle.mac_words.specs.declared.key_lines.NameFault.{NameFault}
use Rattle.mac_words.specs.declared.key_lines.NameFault.TheVariants as fault

-- the line that gives a name a secret
abbrev pub key_text : List ℕ → List ℕ → List ℕ
key_text name secret = codes "key " ++ (name ++ 32 ∷ (encode_lower secret ++ 10 ∷ []))

-- the table in which this name alone stands, with this root key alone
abbrev pub only_key : List ℕ → List ℕ → NamedKeys
only_key name root = from_entries ((name, record { first = root; second = None }) ∷ [])

-- The line of a name: as a key file it gives that name the secret, and says nothing else; and it is
-- one line, which says the same in another file. Or else that the name is none, or that memory ran
-- out.
abbrev pub GivesLine : List ℕ → List ℕ → Result (Vec ℕ Global) NameFault → Type 0
GivesLine name secret (Ok line) =
    IsTrue (is_name name) × (line.items ≡ key_text name secret)
    × (table_of line.items ≡ Ok (only_key name (root_of secret)))
    × IsKeyLine name secret line.items
GivesLine name secret (Err fault.BadName) = ¬ IsTrue (is_name name)
GivesLine name secret (Err fault.Memory) = Unit {0}
