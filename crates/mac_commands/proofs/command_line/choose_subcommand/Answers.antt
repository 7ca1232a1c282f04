use Rattle.std.proofs.Common.{rules}
use Rattle.clap.specs.Words.{found_of, rows_of}
use Rattle.mac_commands.proofs.SubcommandLemmas.{IsMachine, machine_options}
use Rattle.mac_commands.proofs.command_line.choose_subcommand.Goals as goal

pub choose_machine-requires : goal.choose_machine-requires
choose_machine-requires c =
    let machine : IsMachine c.args.name.now = search rules in
    machine_options c.args.name.now (rows_of (found_of c.args.options.now)) c.requires machine
