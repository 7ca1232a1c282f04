use Rattle.std.proofs.Common.{refl}
use Rattle.std.proofs.lemmas.Result.{IfOk-weaker}
use Rattle.clap.specs.Words.{app_of}
use Rattle.mac_commands.specs.People.{attenuate_command, check_command, inspect_command, keygen_command, mint_command, revoke_command, status_command, verify_command}
use Rattle.mac_commands.proofs.Building.{added}
use Rattle.mac_commands.proofs.people.subcommands.add_people.Goals as goal

pub returns : goal.returns
returns c =
    let start = app_of c.args.program in
    let first = added app_of c.build_keygen.result (app_of c.in_ok-program.program) start start keygen_command refl c.build_keygen.ensures c.in_ok-program.ensures in
    let second = added app_of c.build_check.result (app_of c.in_ok-program-2.program) _ _ check_command first c.build_check.ensures c.in_ok-program-2.ensures in
    let third = added app_of c.build_mint.result (app_of c.in_ok-program-3.program) _ _ mint_command second c.build_mint.ensures c.in_ok-program-3.ensures in
    let fourth = added app_of c.build_attenuate.result (app_of c.in_ok-program-4.program) _ _ attenuate_command third c.build_attenuate.ensures c.in_ok-program-4.ensures in
    let fifth = added app_of c.build_verify.result (app_of c.in_ok-program-5.program) _ _ verify_command fourth c.build_verify.ensures c.in_ok-program-5.ensures in
    let sixth = added app_of c.build_inspect.result (app_of c.in_ok-program-6.program) _ _ inspect_command fifth c.build_inspect.ensures c.in_ok-program-6.ensures in
    let seventh = added app_of c.build_status.result (app_of c.in_ok-program-7.program) _ _ status_command sixth c.build_status.ensures c.in_ok-program-7.ensures in
    IfOk-weaker c.add_subcommand-8.result _ _ (λ whole last. added app_of c.build_revoke.result (app_of whole) _ _ revoke_command seventh c.build_revoke.ensures last) c.add_subcommand-8.ensures
