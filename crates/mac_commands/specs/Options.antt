-- What the rows of a parse have, before a choice is made of them. Nobody needs this page to read
-- what `chosen` promises.
use Rattle.std.specs.Prelude.{◌≡◌, ◌⊎◌, ℕ, List, Option, Some, None, codes, Result, Ok, Err}
use Rattle.clap.specs.Values.{IsUnsignedIn}
use Rattle.clap.specs.Words.{Row, Text, first_of, one_of}
use Rattle.mac_commands.specs.declared.choices.Choice.{Choice}
use Rattle.mac_commands.specs.declared.choices.HttpOptions.{HttpOptions}
use Rattle.mac_commands.specs.declared.options.OptionFault.{OptionFault}
use Rattle.mac_commands.specs.declared.options.OptionFault.TheVariants as fault
use Rattle.mac_commands.specs.CommandLine.{HasHttp, HasValues, IsNumber, IsNumberFromOrNone}
use Rattle.mac_commands.specs.CommandLine.{NamesNoMode, choice_name, mode_given}
use Rattle.mac_commands.specs.People.{IsTaskName}

-- the option has a value, as text and as it is read
abbrev pub IsGivenAs : Text → Text → List Row → Type 0
IsGivenAs text id rows = (first_of id rows ≡ Some text) × (one_of id rows ≡ Some text)

abbrev pub IsGiven : Text → List Row → Type 0
IsGiven id rows = (text : Text) × IsGivenAs text id rows

-- and it is a number from `least` to `most`
abbrev pub IsGivenNumberFrom : ℕ → ℕ → Text → List Row → Type 0
IsGivenNumberFrom least most id rows =
    (text : Text) × IsGivenAs text id rows × IsUnsignedIn least most text

-- and it is a number from 1 to `most`
abbrev pub IsGivenNumber : ℕ → Text → List Row → Type 0
IsGivenNumber most id rows = IsGivenNumberFrom 1 most id rows

-- or the option was left out
abbrev pub IsLeftOut : Text → List Row → Type 0
IsLeftOut id rows = (first_of id rows ≡ None) × (one_of id rows ≡ None)

abbrev pub MayBeNumberFrom : ℕ → ℕ → Text → List Row → Type 0
MayBeNumberFrom least most id rows = IsLeftOut id rows ⊎ IsGivenNumberFrom least most id rows

abbrev pub MayBeNumber : ℕ → Text → List Row → Type 0
MayBeNumber most id rows = MayBeNumberFrom 1 most id rows

-- a number was given, within some bound
abbrev pub HasNumber : Text → List Row → Type 0
HasNumber id rows = (most : ℕ) × IsGivenNumber most id rows

-- n is the number that was given, within each bound that it is known to be within
abbrev pub Reads : Text → List Row → ℕ → Type 0
Reads id rows n =
    (most : ℕ) → IsGivenNumber most id rows → IsNumber most n (first_of id rows)

-- the same of an option that may be left out, and whose least number is known
abbrev pub MayRead : Text → List Row → Option ℕ → Type 0
MayRead id rows n = (least most : ℕ) → MayBeNumberFrom least most id rows
    → IsNumberFromOrNone least most n (first_of id rows)

abbrev pub HasServeOptions : List Row → Type 0
HasServeOptions rows = IsGiven (codes "socket") rows × IsGiven (codes "keys") rows
    × IsGivenNumber 16 (codes "workers") rows × IsGivenNumber 1000 (codes "accept") rows

-- the numbers of the options for HTTP
abbrev pub HasHttpOptions : List Row → Type 0
HasHttpOptions rows = MayBeNumber 1024 (codes "http-connections") rows
    × MayBeNumber 3600 (codes "http-patience") rows

pub record HasListenOptions (rows : List Row) : Type 0 where
  pub socket : IsGiven (codes "socket") rows
  pub keys : IsGiven (codes "keys") rows
  pub workers : MayBeNumber 16 (codes "workers") rows
  pub idle : MayBeNumber 86400 (codes "idle") rows
  pub loops : MayBeNumber 64 (codes "loops") rows
  pub connections : MayBeNumber 1000000 (codes "connections") rows
  pub verify_connections : MayBeNumber 1000000 (codes "verify-connections") rows
  pub drain : MayBeNumber 3600 (codes "drain") rows
  pub remember : MayBeNumberFrom 0 1073741824 (codes "remember") rows
  pub memory : MayBeNumberFrom 67108864 1099511627776 (codes "memory") rows
  pub http : HasHttpOptions rows

-- the rows are those of one of the four subcommands
abbrev pub HasOptions : Text → List Row → Type 0
HasOptions name rows = (name ≡ codes "pipe") ⊎ (((name ≡ codes "serve") × HasServeOptions rows)
    ⊎ (((name ≡ codes "listen") × HasListenOptions rows) ⊎ (name ≡ codes "page")))

-- a subcommand was met, one for people or one with such rows
abbrev pub HasCommand : Option (Text × List Row) → Type 0
HasCommand met = (name : Text) × (rows : List Row) × (met ≡ Some (name, rows))
    × (HasOptions name rows ⊎ IsTaskName name)

-- what is made of the options for HTTP
abbrev pub ChoosesHttp : List Row → Result HttpOptions OptionFault → Type 0
ChoosesHttp rows (Ok options) = HasHttp options rows
ChoosesHttp rows (Err fault.UnknownMode) =
    (mode_given (first_of (codes "http-mode") rows) ≡ None)
    ⊎ (mode_given (first_of (codes "http-calls-mode") rows) ≡ None)
ChoosesHttp rows (Err fault.NoMemory) = Unit {0}

-- what is made of them: the choice, or an option for a mode names none, or memory ran out
abbrev pub Chooses : Text → List Row → Result Choice OptionFault → Type 0
Chooses name rows (Ok choice) = (choice_name choice ≡ name) × HasValues choice rows
Chooses name rows (Err fault.UnknownMode) =
    (name ≡ codes "listen") × NamesNoMode rows
Chooses name rows (Err fault.NoMemory) = Unit {0}
