use Rattle.std.proofs.Common.{List, Option, IfOk, subst, sym}
use Rattle.clap.specs.Walk.{Row, Text}
use Rattle.clap.specs.Words.{found_of, rows_of}
use Rattle.mac_commands.specs.CommandLine.{IsChosen}
use Rattle.mac_commands.proofs.SubcommandLemmas.{met_options, met_pair}
use Rattle.mac_commands.proofs.command_line.choose_matched.Goals as goal

pub choose_subcommand-requires : goal.choose_subcommand-requires
choose_subcommand-requires c =
    met_options _ _ _ c.in-Some.name.now (rows_of (found_of c.in-Some.options.now)) c.in-Some.ensures.name c.in-Some.ensures.rows c.requires

pub returns-clause-choice : goal.returns-clause-choice
returns-clause-choice c =
    let name = c.in-Some.name.now in
    let rows = rows_of (found_of c.in-Some.options.now) in
    let same = met_pair _ _ _ name rows c.in-Some.ensures.name c.in-Some.ensures.rows in
    subst (λ (met : Option (Text × List Row)). IfOk c.choose_subcommand.result (λ chosen. IsChosen chosen met)) (sym same) c.choose_subcommand.ensures.choice
