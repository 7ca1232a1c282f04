-- Arguments of subcommands, as `clap` is told them.
use Rattle.std.specs.Prelude.{ℕ, List, Some, true}
use Rattle.std.specs.List.{fold}
use Rattle.clap.specs.Words.{App, Rule, Text, new_rule, with_rule}
use Rattle.clap.specs.declared.builder.action.ArgAction.TheVariants.{SetTrue}
use Rattle.clap.specs.declared.builder.value_parser.ValueParser.TheVariants.{Unsigned}

-- `--NAME VALUE`
abbrev pub option : Text → Rule
option name = record (new_rule name) { long = Some name; value_names = 1 }

-- `--NAME`
abbrev pub flag : Text → Rule
flag name = record (new_rule name) { long = Some name; action = Some SetTrue }

-- the same as an option, where it may not be left out
abbrev pub required : Rule → Rule
required rule = record rule { required = true }

-- the same, where the value is a number from `least` to `most`
abbrev pub number_from : ℕ → ℕ → Rule → Rule
number_from least most rule = record rule { parser = Some (Unsigned least most) }

-- the same, where it is a number from 1 to `most`
abbrev pub number : ℕ → Rule → Rule
number most rule = number_from 1 most rule

-- a subcommand with the arguments, in order
abbrev pub with_rules : App → List Rule → App
with_rules app rules = fold with_rule app rules
