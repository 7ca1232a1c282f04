-- What the program's command line means, by `clap`'s definition of a parse.
use Rattle.std.specs.Prelude.{◌≡◌, ◌==◌, ◌⊎◌, ◌+◌, ◌*◌, ◌≤◌, ◌||◌, ◌&&◌, ℕ, Bool, List, [], ◌∷◌, Option}
use Rattle.std.specs.Prelude.{Some, None}
use Rattle.std.specs.Prelude.{codes, if◌then◌else◌, false, nat_eq, string_bytes, true}
use Rattle.std.specs.List.{before_first, starts_with}
use Rattle.std.specs.Str.{bytes_eq}
use Rattle.std.specs.Str.Parse.{IsNumeral, digits_value, without_leading_plus}
use Rattle.std.specs.declared.string.String.{String}
use Rattle.std.specs.declared.alloc.Global.{Global}
use Rattle.clap.specs.Kinds.{IsAmong, Kinds}
use Rattle.clap.specs.Words.{App, Row, Rule, Text, fault_of, first_of, new_app, subcommand_of}
use Rattle.clap.specs.Words.{with_rule, with_subcommand}
use Rattle.clap.specs.declared.error.kind.ErrorKind.{ErrorKind}
use Rattle.clap.specs.declared.error.kind.ErrorKind.TheVariants.{DisplayHelp, DisplayVersion}
use Rattle.clap.specs.declared.error.kind.ErrorKind.TheVariants.{OutOfMemory}
use Rattle.mac_commands.specs.declared.choices.Choice.{Choice}
use Rattle.mac_commands.specs.declared.choices.Choice.TheVariants.{Pipe, Serve, Listen, Page}
use Rattle.mac_commands.specs.declared.choices.Chosen.{Chosen}
use Rattle.mac_commands.specs.declared.choices.Chosen.TheVariants.{Machine, Person}
use Rattle.mac_commands.specs.declared.choices.HttpOptions.{HttpOptions}
use Rattle.mac_commands.specs.declared.choices.ListenOptions.{ListenOptions}
use Rattle.mac_commands.specs.declared.choices.Mode.{Mode}
use Rattle.mac_commands.specs.declared.choices.Mode.TheVariants.{Owner, Group, Everyone}
use Rattle.mac_commands.specs.declared.choices.PageOptions.{PageOptions}
use Rattle.mac_commands.specs.declared.choices.PipeOptions.{PipeOptions}
use Rattle.mac_commands.specs.declared.choices.ServeOptions.{ServeOptions}
use Rattle.mac_commands.specs.declared.status.Status.{Status}
use Rattle.mac_commands.specs.declared.status.Status.TheVariants.{Done, BadLine, NoMemory}
use Rattle.mac_commands.specs.Arguments.{flag, number, number_from, option, required, with_rules}
use Rattle.mac_commands.specs.People.{IsOptionalText, IsTask, is_set, with_people}

-- ---- what `clap` is told

-- the subcommand `pipe`, whose option may be left out
abbrev pub pipe_command : App
pipe_command = with_rule (new_app (codes "pipe")) (option (codes "revoked"))

-- the program without its subcommands: one of them has to be named, and `help` is none of them;
-- it has the option `--version`
abbrev pub program : App
program = record (new_app (codes "macaroond")) {
  top = record (new_app (codes "macaroond")).top {
    has_version = true;
    subcommand_required = true;
    disable_help_subcommand = true;
  };
}

-- the subcommand `serve` with the options that have to be given
abbrev pub served_app : App
served_app = with_rules (new_app (codes "serve"))
    (required (option (codes "socket"))
    ∷ required (option (codes "keys"))
    ∷ required (number 16 (option (codes "workers")))
    ∷ required (number 1000 (option (codes "accept")))
    ∷ [])

-- the same with its flag, and with the option that may be left out
abbrev pub serve_command : App
serve_command = with_rule (with_rule served_app (flag (codes "keys-of-others")))
    (option (codes "revoked"))

-- the options of `listen` for its sockets over HTTP: for gateways
abbrev pub gateway_rules : List Rule
gateway_rules = option (codes "http")
    ∷ option (codes "http-anywhere")
    ∷ option (codes "http-mode")
    ∷ number 1024 (option (codes "http-connections"))
    ∷ number 3600 (option (codes "http-patience"))
    ∷ option (codes "http-granted")
    ∷ option (codes "http-facts")
    ∷ flag (codes "http-strict-paths")
    ∷ option (codes "http-names")
    ∷ []

-- for calls, and for operators; the last but one is an option of earlier versions
abbrev pub calls_rules : List Rule
calls_rules = option (codes "http-calls")
    ∷ option (codes "http-calls-mode")
    ∷ option (codes "http-calls-allow")
    ∷ option (codes "http-calls-names")
    ∷ option (codes "http-allow")
    ∷ option (codes "http-admin")
    ∷ []

-- its options for a second socket, for its log, and for its files
abbrev pub further_rules : List Rule
further_rules = option (codes "verify-socket")
    ∷ option (codes "verify-mode")
    ∷ option (codes "verify-names")
    ∷ number 1000000 (option (codes "verify-connections"))
    ∷ flag (codes "replace")
    ∷ option (codes "log")
    ∷ flag (codes "keys-of-others")
    ∷ option (codes "revoked")
    ∷ flag (codes "allow-empty-revoked")
    ∷ []

-- the subcommand `listen`, whose socket and key file have to be given
abbrev pub listen_command : App
listen_command = with_rules (with_rules (with_rules (with_rules (new_app (codes "listen"))
    (required (option (codes "socket"))
    ∷ required (option (codes "keys"))
    ∷ number 16 (option (codes "workers"))
    ∷ option (codes "mode")
    ∷ number 86400 (option (codes "idle"))
    ∷ number 64 (option (codes "loops"))
    ∷ number 1000000 (option (codes "connections"))
    ∷ number 3600 (option (codes "drain"))
    ∷ number_from 0 1073741824 (option (codes "remember"))
    ∷ number_from 67108864 1099511627776 (option (codes "memory"))
    ∷ option (codes "names")
    ∷ [])) further_rules) gateway_rules) calls_rules

-- the subcommand `page`, whose options may be left out
abbrev pub page_command : App
page_command = with_rules (new_app (codes "page"))
    (option (codes "address") ∷ option (codes "keys") ∷ option (codes "revoked") ∷ [])

-- the whole command line
abbrev pub command_line : App
command_line = with_people (with_subcommand (with_subcommand (with_subcommand (with_subcommand
    program pipe_command.top) serve_command.top) listen_command.top) page_command.top)

-- ---- what `clap` makes of the words

-- how a run ends with each kind of error: well with what was asked for, with its own status where
-- memory ran out, else for a bad line
abbrev pub exit_status : ErrorKind → Status
exit_status DisplayHelp = Done
exit_status DisplayVersion = Done
exit_status OutOfMemory = NoMemory
exit_status _ = BadLine

-- a fault that `clap` may tell of the words ends the program with this status
abbrev pub MayEnd : List Text → Status → Type 0
MayEnd words status =
    (kind : ErrorKind) × IsAmong kind (fault_of command_line words) × (exit_status kind ≡ status)

-- `clap` takes the words, or each fault that it may tell of them ends with the status
abbrev pub AllLeadTo : Status → Kinds → Type 0
AllLeadTo status [] = Unit {0}
AllLeadTo status (kind ∷ rest) = (exit_status kind ≡ status) × AllLeadTo status rest

abbrev pub LeadsTo : Option Status → Kinds → Type 0
LeadsTo None kinds = kinds ≡ []
LeadsTo (Some status) [] = ⊥
LeadsTo (Some status) (kind ∷ rest) = AllLeadTo status (kind ∷ rest)

-- ---- what the choice says of the words

-- the number that a numeral writes, where a plus may stand first
abbrev pub number_in : Text → ℕ
number_in text = digits_value 10 (without_leading_plus text)

-- the option was given, with the number n from `least` to `most`
abbrev pub IsNumberFrom : ℕ → ℕ → ℕ → Option Text → Type 0
IsNumberFrom least most n given = (text : Text) × (given ≡ Some text)
    × IsNumeral 10 (without_leading_plus text) × (n ≡ number_in text) × (least ≤ n) × (n ≤ most)

-- the same, where the option may be left out
abbrev pub IsNumberFromOrNone : ℕ → ℕ → Option ℕ → Option Text → Type 0
IsNumberFromOrNone least most (Some n) given = IsNumberFrom least most n given
IsNumberFromOrNone least most None given = given ≡ None

-- both, where it is a number from 1 to `most`
abbrev pub IsNumber : ℕ → ℕ → Option Text → Type 0
IsNumber most n given = IsNumberFrom 1 most n given

abbrev pub IsNumberOrNone : ℕ → Option ℕ → Option Text → Type 0
IsNumberOrNone most n given = IsNumberFromOrNone 1 most n given

-- the mode that three octal digits name
abbrev pub mode_of : Text → Option Mode
mode_of digits = if bytes_eq digits (codes "600") then Some Owner
    else (if bytes_eq digits (codes "660") then Some Group
    else (if bytes_eq digits (codes "666") then Some Everyone else None))

-- the permissions, in which each octal digit 6 is read and write
abbrev pub permissions : Mode → ℕ
permissions Owner = 6 * 64
permissions Group = 6 * 64 + 6 * 8
permissions Everyone = 6 * 64 + 6 * 8 + 6

-- the mode of a socket whose option for it was given so, or left out
abbrev pub mode_given : Option Text → Option Mode
mode_given None = Some Owner
mode_given (Some digits) = mode_of digits

abbrev pub IsText : String Global → Option Text → Type 0
IsText text given = given ≡ Some (string_bytes text)

-- the values of the options of `serve`
abbrev pub HasServe : ServeOptions → List Row → Type 0
HasServe options rows = IsText options.socket (first_of (codes "socket") rows)
    × IsText options.keys (first_of (codes "keys") rows)
    × IsNumber 16 options.workers (first_of (codes "workers") rows)
    × IsNumber 1000 options.accept (first_of (codes "accept") rows)
    × (options.keys_of_others ≡ is_set (codes "keys-of-others") rows)
    × IsOptionalText options.revoked (codes "revoked") rows

-- the values of its options for HTTP
abbrev pub HasHttp : HttpOptions → List Row → Type 0
HasHttp options rows = IsOptionalText options.here (codes "http") rows
    × IsOptionalText options.anywhere (codes "http-anywhere") rows
    × (mode_given (first_of (codes "http-mode") rows) ≡ Some options.mode)
    × IsNumberOrNone 1024 options.connections (first_of (codes "http-connections") rows)
    × IsNumberOrNone 3600 options.patience (first_of (codes "http-patience") rows)
    × IsOptionalText options.granted (codes "http-granted") rows
    × IsOptionalText options.facts (codes "http-facts") rows
    × (options.strict_paths ≡ is_set (codes "http-strict-paths") rows)
    × IsOptionalText options.names (codes "http-names") rows
    × IsOptionalText options.calls (codes "http-calls") rows
    × (mode_given (first_of (codes "http-calls-mode") rows) ≡ Some options.calls_mode)
    × IsOptionalText options.calls_allow (codes "http-calls-allow") rows
    × IsOptionalText options.calls_names (codes "http-calls-names") rows
    × IsOptionalText options.allow (codes "http-allow") rows
    × IsOptionalText options.admin (codes "http-admin") rows

-- the values of the options of `listen`
abbrev pub HasListen : ListenOptions → List Row → Type 0
HasListen options rows = IsText options.socket (first_of (codes "socket") rows)
    × IsText options.keys (first_of (codes "keys") rows)
    × IsNumberOrNone 16 options.workers (first_of (codes "workers") rows)
    × (mode_given (first_of (codes "mode") rows) ≡ Some options.mode)
    × IsNumberOrNone 86400 options.idle (first_of (codes "idle") rows)
    × IsNumberOrNone 64 options.loops (first_of (codes "loops") rows)
    × IsNumberOrNone 1000000 options.connections (first_of (codes "connections") rows)
    × IsNumberOrNone 3600 options.drain (first_of (codes "drain") rows)
    × IsNumberFromOrNone 0 1073741824 options.remember (first_of (codes "remember") rows)
    × IsNumberFromOrNone 67108864 1099511627776 options.memory (first_of (codes "memory") rows)
    × IsOptionalText options.names (codes "names") rows
    × IsOptionalText options.verify_socket (codes "verify-socket") rows
    × (mode_given (first_of (codes "verify-mode") rows) ≡ Some options.verify_mode)
    × IsOptionalText options.verify_names (codes "verify-names") rows
    × IsNumberOrNone 1000000 options.verify_connections (first_of (codes "verify-connections") rows)
    × (options.replace ≡ is_set (codes "replace") rows)
    × IsOptionalText options.log (codes "log") rows
    × (options.keys_of_others ≡ is_set (codes "keys-of-others") rows)
    × IsOptionalText options.revoked (codes "revoked") rows
    × (options.allow_empty_revoked ≡ is_set (codes "allow-empty-revoked") rows)
    × HasHttp options.http rows

-- the values of the options of `page`
abbrev pub HasPage : PageOptions → List Row → Type 0
HasPage options rows = IsOptionalText options.address (codes "address") rows
    × IsOptionalText options.keys (codes "keys") rows
    × IsOptionalText options.revoked (codes "revoked") rows

-- the values of the options of `pipe`
abbrev pub HasPipe : PipeOptions → List Row → Type 0
HasPipe options rows = IsOptionalText options.revoked (codes "revoked") rows

-- the choice has the values of a subcommand's options
abbrev pub HasValues : Choice → List Row → Type 0
HasValues (Pipe options) rows = HasPipe options rows
HasValues (Serve options) rows = HasServe options rows
HasValues (Listen options) rows = HasListen options rows
HasValues (Page options) rows = HasPage options rows

-- the subcommand that the choice stands for
abbrev pub choice_name : Choice → Text
choice_name (Pipe options) = codes "pipe"
choice_name (Serve options) = codes "serve"
choice_name (Listen options) = codes "listen"
choice_name (Page options) = codes "page"

-- the choice is the one that a subcommand of this name, with these options, stands for
abbrev pub IsChoice : Choice → Option (Text × List Row) → Type 0
IsChoice choice met =
    (rows : List Row) × (met ≡ Some (choice_name choice, rows)) × HasValues choice rows

-- what was chosen is what the subcommand stands for, be it a machine's or a person's
abbrev pub IsChosen : Chosen → Option (Text × List Row) → Type 0
IsChosen (Machine choice) met = IsChoice choice met
IsChosen (Person task) met = IsTask task met

-- an option for a mode was given with digits that name none
abbrev pub NamesNoMode : List Row → Type 0
NamesNoMode rows = (mode_given (first_of (codes "mode") rows) ≡ None)
    ⊎ ((mode_given (first_of (codes "verify-mode") rows) ≡ None)
    ⊎ ((mode_given (first_of (codes "http-mode") rows) ≡ None)
    ⊎ (mode_given (first_of (codes "http-calls-mode") rows) ≡ None)))

abbrev pub HasUnknownMode : Option (Text × List Row) → Type 0
HasUnknownMode met = (rows : List Row) × (met ≡ Some (codes "listen", rows)) × NamesNoMode rows

-- the same of the words of a command line
abbrev pub AsksUnknownMode : List Text → Type 0
AsksUnknownMode words = HasUnknownMode (subcommand_of command_line words)

-- ---- the same in plain words

-- `--help`, or `-h` with or without more letters after it
abbrev pub asks_for_help : Text → Bool
asks_for_help word =
    bytes_eq word (codes "--help") || starts_with nat_eq word (codes "-h")

-- `--version`, or `-V` likewise
abbrev pub asks_for_version : Text → Bool
asks_for_version word =
    bytes_eq word (codes "--version") || starts_with nat_eq word (codes "-V")

-- a word that means nothing else asks for help, or for the version where there is one, or is a
-- mistake
abbrev pub status_of_word : Bool → Text → Status
status_of_word has_version word =
    if asks_for_help word || (has_version && asks_for_version word) then Done else BadLine

-- after `pipe` nothing has to stand, and `--`, which ends the options, may stand last
abbrev pub status_after_pipe : List Text → Option Status
status_after_pipe [] = None
status_after_pipe (word ∷ []) =
    if bytes_eq word (codes "--") then None else Some (status_of_word false word)
status_after_pipe (word ∷ next ∷ rest) = Some (status_of_word false word)

-- `pipe` has to come first, and there `--version` may stand in its place
abbrev pub status_of_arguments : List Text → Option Status
status_of_arguments [] = Some BadLine
status_of_arguments (word ∷ rest) = if bytes_eq word (codes "pipe") then status_after_pipe rest
    else Some (status_of_word true word)

-- the first of the words names a subcommand other than `pipe`
abbrev pub names_another : List Text → Bool
names_another [] = false
names_another (word ∷ rest) = bytes_eq word (codes "serve") || (bytes_eq word (codes "listen")
    || (bytes_eq word (codes "page") || (bytes_eq word (codes "keygen")
    || (bytes_eq word (codes "check") || (bytes_eq word (codes "mint")
    || (bytes_eq word (codes "attenuate") || (bytes_eq word (codes "verify")
    || (bytes_eq word (codes "inspect") || (bytes_eq word (codes "status")
    || bytes_eq word (codes "revoke"))))))))))

-- the option of `pipe`: a word that is `--revoked` up to its first `=`, if it has one
abbrev pub is_list_option : Text → Bool
is_list_option word = bytes_eq (before_first (λ byte. byte == 61) word) (codes "--revoked")

-- the words are `pipe` and, right behind it, its option
abbrev pub gives_list : List Text → Bool
gives_list [] = false
gives_list (word ∷ []) = false
gives_list (word ∷ next ∷ rest) = bytes_eq word (codes "pipe") && is_list_option next
