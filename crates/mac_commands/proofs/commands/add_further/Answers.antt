use Rattle.std.proofs.Common.{◌≡◌, ◌∙◌, ap}
use Rattle.std.proofs.lemmas.Result.{IfOk-weaker}
use Rattle.clap.specs.Words.{App, app_of}
use Rattle.mac_commands.specs.Arguments.{with_rules}
use Rattle.mac_commands.specs.CommandLine.{calls_rules, further_rules, gateway_rules}
use Rattle.mac_commands.proofs.commands.add_further.Goals as goal

pub returns : goal.returns
returns c =
    let further : app_of c.in_ok-listen.listen ≡ with_rules (app_of c.args.listen) further_rules = c.in_ok-listen.ensures in
    IfOk-weaker c.add_http.result _ _ (λ listen last. last ∙ ap (λ (app : App). with_rules (with_rules app gateway_rules) calls_rules) further) c.add_http.ensures
