use Rattle.std.proofs.Common.{◌≡◌, drop, map}
use Rattle.clap.specs.Words.{app_of}
use Rattle.mac_commands.specs.Arguments.{with_rules}
use Rattle.mac_commands.specs.Tables.{argument_rule}
use Rattle.mac_commands.proofs.parts.add_arguments.Given as goal

-- with the arguments so far, those that are left make the whole
abbrev pub invariant-loop-argument : goal.invariant-loop-argument
invariant-loop-argument l =
    with_rules (app_of l.command) (map argument_rule (drop l.argument-index l.arguments))
    ≡ with_rules (app_of l.fn.command) (map argument_rule l.arguments)
