use Rattle.std.proofs.Common.{◌≡◌, ◌∙◌, ap}
use Rattle.std.proofs.lemmas.Result.{IfOk-weaker}
use Rattle.clap.specs.Words.{App, app_of}
use Rattle.mac_commands.specs.Arguments.{with_rules}
use Rattle.mac_commands.specs.CommandLine.{calls_rules, gateway_rules}
use Rattle.mac_commands.proofs.commands.add_http.Goals as goal

pub returns : goal.returns
returns c =
    let gateways : app_of c.in_ok-listen.listen ≡ with_rules (app_of c.args.listen) gateway_rules = c.in_ok-listen.ensures in
    IfOk-weaker c.add_calls.result _ _ (λ listen last. last ∙ ap (λ (app : App). with_rules app calls_rules) gateways) c.add_calls.ensures
