use Rattle.std.proofs.Common.{rules, ◌≡◌, ◌∙◌, ap}
use Rattle.std.proofs.lemmas.Result.{IfOk-weaker}
use Rattle.clap.specs.Words.{app_of}
use Rattle.mac_commands.specs.CommandLine.{listen_command, page_command, pipe_command, program, serve_command}
use Rattle.mac_commands.specs.People.{with_people}
use Rattle.mac_commands.proofs.Building.{added}
use Rattle.mac_commands.proofs.commands.build_command.Goals as goal

pub returns : goal.returns
returns c =
    let start : app_of c.disable_help_subcommand-program.result ≡ program = search rules in
    let first = added app_of c.build_pipe.result (app_of c.in_ok-program.program) _ _ pipe_command start c.build_pipe.ensures c.in_ok-program.ensures in
    let second = added app_of c.build_serve.result (app_of c.in_ok-program-2.program) _ _ serve_command first c.build_serve.ensures c.in_ok-program-2.ensures in
    let third = added app_of c.build_listen.result (app_of c.in_ok-program-3.program) _ _ listen_command second c.build_listen.ensures c.in_ok-program-3.ensures in
    let fourth = added app_of c.build_page.result (app_of c.in_ok-program-4.program) _ _ page_command third c.build_page.ensures c.in_ok-program-4.ensures in
    IfOk-weaker c.add_people.result _ _ (λ whole last. last ∙ ap with_people fourth) c.add_people.ensures
