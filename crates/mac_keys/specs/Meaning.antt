-- What a key file means, in words that take the lines one by one: what the crate's laws say.
use Rattle.std.specs.Prelude.{◌≡◌, ◌≢◌, ◌⊎◌, ℕ, ◌+◌, ◌<◌, ◌≤◌, ◌%◌, ◌++◌, List, [], ◌∷◌, length, take, codes, IsTrue, Option, Some, None, option_map, Result, Ok, Err}
use Rattle.std.specs.Option.{option_map_or}
use Rattle.std.specs.List.{slice_get, filter_map, Any, Contains}
use Rattle.std.specs.Ordering.{nat_cmp}
use Rattle.std.specs.Cmp.Lexicographic.{slice_cmp}
use Rattle.std.specs.FinMap.{get}
use Rattle.std.specs.FinSet.{FinSet, from_list, len}
use Rattle.hex.specs.Hex.{decode_of}
use Rattle.mac_hmac.specs.Chain.{root_of}
use Rattle.mac_keys.specs.declared.fault.LineFault.{LineFault}
use Rattle.mac_keys.specs.declared.key_map.TheConstants.{NAMES_MAX}
use Rattle.mac_keys.specs.Line.{Given, is_name, line_of}
use Rattle.mac_keys.specs.Keys.{NamedKeys, listed}
use Rattle.mac_keys.specs.Table.{keys_of, fault_below}

-- the line is `key `, the name, a space, and digits that spell the secret
pub record Spells (line : List ℕ) (g : Given) : Type 0 where
  pub digits : List ℕ
  pub form : line ≡ codes "key " ++ g.name ++ 32 ∷ digits
  pub name : IsTrue (is_name g.name)
  pub secret : decode_of digits ≡ Ok g.secret
  pub some : 0 < length digits

-- the keys that a table has for a name, in their order
abbrev pub keys_at : NamedKeys → List ℕ → List (List ℕ)
keys_at table name = option_map_or listed (get table name) []

-- the line gives the name a secret of which this is the root key
pub record GivesKey (name key line : List ℕ) : Type 0 where
  pub secret : List ℕ
  pub said : line_of line ≡ Ok (Some (record { name = name; secret = secret }))
  pub derived : key ≡ root_of secret

-- what is wrong with the line at a place, counted from 0, below those above it
abbrev pub fault_in_place : List (List ℕ) → ℕ → List ℕ → Option LineFault
fault_in_place lines place line = fault_below (keys_of (take place lines)) (line_of line)

-- no line has a fault
abbrev pub AreFaultless : List (List ℕ) → Type 0
AreFaultless lines =
    (place : ℕ) (line : List ℕ) → slice_get lines place ≡ Some line
    → fault_in_place lines place line ≡ None

-- no line above this place has a fault
abbrev pub AreFaultlessAbove : List (List ℕ) → ℕ → Type 0
AreFaultlessAbove lines place =
    (higher : ℕ) (other : List ℕ) → higher < place → slice_get lines higher ≡ Some other
    → fault_in_place lines higher other ≡ None

-- the line of this number, counted from 1, has this fault, and none above it has any
pub record IsFirstFault (lines : List (List ℕ)) (number : ℕ) (fault : LineFault) : Type 0 where
  pub place : ℕ
  pub line : List ℕ
  pub there : slice_get lines place ≡ Some line
  pub found : fault_in_place lines place line ≡ Some fault
  pub above : AreFaultlessAbove lines place
  pub numbered : number ≡ place + 1

-- ---- what is wrong with a line that has a fault

-- BadLine: neither empty nor a comment, and not `key `, some bytes, a space and whatever follows
pub record IsBadLine (line : List ℕ) : Type 0 where
  pub some : line ≢ []
  pub no_comment : (rest : List ℕ) → line ≢ 35 ∷ rest
  pub form : (name rest : List ℕ) → line ≢ codes "key " ++ name ++ 32 ∷ rest

-- BadName: what stands between `key ` and the next space is no name
pub record HasBadName (line : List ℕ) : Type 0 where
  pub name : List ℕ
  pub rest : List ℕ
  pub form : line ≡ codes "key " ++ name ++ 32 ∷ rest
  pub next : ¬ Contains name 32
  pub bad : ¬ IsTrue (is_name name)

-- EmptySecret: nothing stands behind the name and its space
pub record HasEmptySecret (line : List ℕ) : Type 0 where
  pub name : List ℕ
  pub form : line ≡ codes "key " ++ name ++ 32 ∷ []
  pub named : IsTrue (is_name name)

-- BadHex: what stands there spells no bytes
pub record HasBadHex (line : List ℕ) : Type 0 where
  pub name : List ℕ
  pub digits : List ℕ
  pub form : line ≡ codes "key " ++ name ++ 32 ∷ digits
  pub named : IsTrue (is_name name)
  pub some : 0 < length digits
  pub bad : (secret : List ℕ) → decode_of digits ≢ Ok secret

-- the line gives this name a secret
abbrev pub GivesName : List ℕ → List ℕ → Type 0
GivesName name line = (secret : List ℕ) × Spells line (record { name = name; secret = secret })

-- two of the lines are such: the first and one of the others, or two of the others
abbrev pub TwoOf : (List ℕ → Type 0) → List (List ℕ) → Type 0
TwoOf Is [] = ⊥
TwoOf Is (line ∷ lines) = (Is line × Any Is lines) ⊎ TwoOf Is lines

-- Twice: it gives a name a secret, and so do two of the lines above it
pub record IsTwice (above : List (List ℕ)) (line : List ℕ) : Type 0 where
  pub name : List ℕ
  pub given : GivesName name line
  pub known : TwoOf (GivesName name) above

-- the names to which the lines give secrets, each once
abbrev pub name_said : Result (Option Given) LineFault → Option (List ℕ)
name_said (Ok said) = option_map (λ g. g.name) said
name_said (Err fault) = None

abbrev pub names_given : List (List ℕ) → FinSet (slice_cmp nat_cmp)
names_given lines = from_list (filter_map (λ line. name_said (line_of line)) lines)

-- TooMany: it gives a secret to a name to which none of the lines above it gives one, and these
-- give 1,000 names theirs
pub record IsTooMany (above : List (List ℕ)) (line : List ℕ) : Type 0 where
  pub name : List ℕ
  pub given : GivesName name line
  pub new : ¬ Any (GivesName name) above
  pub full : NAMES_MAX ≤ len (names_given above)

-- ---- where memory may run out

-- some bytes, an even number of them, as the digits of a secret are
abbrev pub ArePairs : List ℕ → Type 0
ArePairs digits = (0 < length digits) × (length digits % 2 ≡ 0)

-- the line has such bytes behind a name
pub record HasPairs (line : List ℕ) : Type 0 where
  pub name : List ℕ
  pub digits : List ℕ
  pub form : line ≡ codes "key " ++ name ++ 32 ∷ digits
  pub named : IsTrue (is_name name)
  pub pairs : ArePairs digits

-- some line has them, and none above it has a fault: that line is read, and its secret takes memory
pub record TakeMemory (lines : List (List ℕ)) : Type 0 where
  pub place : ℕ
  pub line : List ℕ
  pub there : slice_get lines place ≡ Some line
  pub has : HasPairs line
  pub above : AreFaultlessAbove lines place
