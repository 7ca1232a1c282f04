use Rattle.std.proofs.Common.{◌∙◌, ap}
use Rattle.clap.specs.Words.{found_of}
use Rattle.clap.proofs.WalkLemmas.{first_value-rows}
use Rattle.mac_commands.specs.CommandLine.{mode_given}
use Rattle.mac_commands.proofs.options.read_mode.Goals as goal

pub returns-in-Some : goal.returns-in-Some
returns-in-Some c = c.of.ensures ∙ ap mode_given (c.in-Some.ensures ∙ first_value-rows (found_of c.args.options.now) c.args.name.now)

pub returns-in-None : goal.returns-in-None
returns-in-None c = ap mode_given (c.in-None.ensures ∙ first_value-rows (found_of c.args.options.now) c.args.name.now)
