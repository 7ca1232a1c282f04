-- The tables of arguments, as `clap` is told them.
use Rattle.clap.specs.Words.{Rule}
use Rattle.mac_commands.specs.Arguments.{flag, number, number_from, option, required}
use Rattle.mac_commands.specs.People.{repeated, word}
use Rattle.mac_commands.specs.declared.parts.Argument.{Argument}
use Rattle.mac_commands.specs.declared.parts.Argument.TheVariants as argument

-- the argument that a table names
abbrev pub argument_rule : Argument → Rule
argument_rule (argument.Flag name help) = flag name.now
argument_rule (argument.Text name value help) = option name.now
argument_rule (argument.Required name value help) = required (option name.now)
argument_rule (argument.Count name most help) = number most (option name.now)
argument_rule (argument.RequiredCount name most help) = required (number most (option name.now))
argument_rule (argument.Bytes name least most help) = number_from least most (option name.now)
argument_rule (argument.Repeated name help) = repeated (option name.now)
argument_rule (argument.Word name value help) = required (word name.now)
argument_rule (argument.OptionalWord name value help) = word name.now
