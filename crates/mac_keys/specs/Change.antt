-- A change of keys: a line of a name put into the text of a key file, or taken out of it.
use Rattle.std.specs.Prelude.{◌≡◌, ◌⊎◌, ℕ, List, [], ◌∷◌, ◌++◌, Option, Some, None}
use Rattle.std.specs.Prelude.{Ok, Err}
use Rattle.std.specs.List.{Any}
use Rattle.std.specs.FinMap.{get, insert}
use Rattle.mac_hmac.specs.Chain.{root_of}
use Rattle.mac_keys.specs.declared.change.ChangeFault.{ChangeFault}
use Rattle.mac_keys.specs.declared.change.ChangeFault.TheVariants as change
use Rattle.mac_keys.specs.declared.fault.KeyFault.{KeyFault}
use Rattle.mac_keys.specs.declared.fault.KeyFault.TheVariants as faults
use Rattle.mac_keys.specs.declared.keys.Keys.{Keys}
use Rattle.mac_keys.specs.Line.{line_of}
use Rattle.mac_keys.specs.Meaning.{GivesName}
use Rattle.mac_keys.specs.Table.{NamedKeys, lines_of, table_of}

-- ---- where a line stands

-- these are the lines of the text whatever follows it: each has its line feed
abbrev pub AreWhole : List (List ℕ) → List ℕ → Type 0
AreWhole lines text = (rest : List ℕ) → lines_of (text ++ rest) ≡ lines ++ lines_of rest

-- the text is this line, with its line feed, which at the end of a file it may lack
abbrev pub IsLine : List ℕ → List ℕ → List ℕ → Type 0
IsLine line text below = (text ≡ line ++ 10 ∷ []) ⊎ ((text ≡ line) × (below ≡ []))

-- a line feed ends the line, which gives the name the secret
pub record IsKeyLine (name secret text : List ℕ) : Type 0 where
  pub line : List ℕ
  pub alone : AreWhole (line ∷ []) text
  pub said : line_of line ≡ Ok (Some (record { name = name; secret = secret }))

-- the first line that gives the name a secret has this text above it now; all else is as it was
pub record PutsAbove (name line text changed : List ℕ) : Type 0 where
  pub above : List ℕ
  pub below : List ℕ
  pub old : text ≡ above ++ below
  pub new : changed ≡ above ++ line ++ below
  pub lines : List (List ℕ)
  pub whole : AreWhole lines above
  pub others : ¬ Any (GivesName name) lines
  pub upper : (first : List ℕ) × (rest : List (List ℕ)) × (lines_of below ≡ first ∷ rest)
      × GivesName name first

-- a line that gives the name a secret, below another that does, is gone; all else is as it was
pub record TakesLower (name text changed : List ℕ) : Type 0 where
  pub above : List ℕ
  pub gone : List ℕ
  pub below : List ℕ
  pub old : text ≡ above ++ gone ++ below
  pub new : changed ≡ above ++ below
  pub lines : List (List ℕ)
  pub whole : AreWhole lines above
  pub upper : Any (GivesName name) lines
  pub lower : (line : List ℕ) × IsLine line gone below × GivesName name line

-- ---- what becomes of the table

-- the key file has no fault, and these keys at the name
abbrev pub HasKeys : List ℕ → List ℕ → Option Keys → Type 0
HasKeys text name keys = (table : NamedKeys) × (table_of text ≡ Ok table) × (get table name ≡ keys)

-- the name had one key, which is its second now, below a new one; each other name has its own
pub record AddsKey (name key text changed : List ℕ) : Type 0 where
  pub table : NamedKeys
  pub first : List ℕ
  pub old : table_of text ≡ Ok table
  pub had : get table name ≡ Some (record { first = first; second = None })
  pub new : table_of changed
      ≡ Ok (insert table name (record { first = key; second = Some first }))

-- the name had two keys, of which it has the first alone now; each other name has its own
pub record DropsKey (name text changed : List ℕ) : Type 0 where
  pub table : NamedKeys
  pub first : List ℕ
  pub second : List ℕ
  pub old : table_of text ≡ Ok table
  pub had : get table name ≡ Some (record { first = first; second = Some second })
  pub new : table_of changed ≡ Ok (insert table name (record { first = first; second = None }))

-- the name had one key, which is its first now, above a new one; each other name has its own
pub record AddsLower (name key text changed : List ℕ) : Type 0 where
  pub table : NamedKeys
  pub first : List ℕ
  pub old : table_of text ≡ Ok table
  pub had : get table name ≡ Some (record { first = first; second = None })
  pub new : table_of changed
      ≡ Ok (insert table name (record { first = first; second = Some key }))

-- the name had two keys, of which the second is its first now; each other name has its own
pub record SwapsKeys (name text changed : List ℕ) : Type 0 where
  pub table : NamedKeys
  pub first : List ℕ
  pub second : List ℕ
  pub old : table_of text ≡ Ok table
  pub had : get table name ≡ Some (record { first = first; second = Some second })
  pub new : table_of changed
      ≡ Ok (insert table name (record { first = second; second = Some first }))

-- the name had two keys, of which it has the second alone now; each other name has its own
pub record DropsFirst (name text changed : List ℕ) : Type 0 where
  pub table : NamedKeys
  pub first : List ℕ
  pub second : List ℕ
  pub old : table_of text ≡ Ok table
  pub had : get table name ≡ Some (record { first = first; second = Some second })
  pub new : table_of changed ≡ Ok (insert table name (record { first = second; second = None }))

-- the lower line of the name stands above the other one now; all else is as it was
pub record RaisesLower (name text changed : List ℕ) : Type 0 where
  pub line : List ℕ
  pub rest : List ℕ
  pub taken : TakesLower name text rest
  pub put : PutsAbove name line rest changed

-- a line feed ends the line, which gives the name its second key
pub record IsLower (name text line : List ℕ) : Type 0 where
  pub first : List ℕ
  pub secret : List ℕ
  pub key : IsKeyLine name secret line
  pub had : HasKeys text name
      (Some (record { first = first; second = Some (root_of secret) }))

-- ---- why nothing changes

abbrev pub HasTwo : List ℕ → List ℕ → Type 0
HasTwo text name = (first second : List ℕ)
    × HasKeys text name (Some (record { first = first; second = Some second }))

abbrev pub HasOne : List ℕ → List ℕ → Type 0
HasOne text name = (first : List ℕ)
    × HasKeys text name (Some (record { first = first; second = None }))

-- the file's first fault, or want of memory
abbrev pub IsFileFault : List ℕ → KeyFault → Type 0
IsFileFault text fault = (fault ≡ faults.Memory) ⊎ (table_of text ≡ Err fault)

abbrev pub RefusesAbove : List ℕ → List ℕ → ChangeFault → Type 0
RefusesAbove text name (change.File fault) = IsFileFault text fault
RefusesAbove text name change.NoLine = HasKeys text name None
RefusesAbove text name change.OneLine = ⊥
RefusesAbove text name change.TwoLines = HasTwo text name

abbrev pub RefusesDrop : List ℕ → List ℕ → ChangeFault → Type 0
RefusesDrop text name (change.File fault) = IsFileFault text fault
RefusesDrop text name change.NoLine = HasKeys text name None
RefusesDrop text name change.OneLine = HasOne text name
RefusesDrop text name change.TwoLines = ⊥
