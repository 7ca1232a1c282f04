use Rattle.std.proofs.Common.{rules, ◌≡◌, take}
use Rattle.std.proofs.lemmas.List.{take_all}
use Rattle.mac_host.specs.declared.exchange.TheConstants.{IDENTIFIER_NOTED}
use Rattle.mac_host.proofs.exchange.copy_told_identifier.Goals as goal

pub returns-in-None : goal.returns-in-None
returns-in-None c =
    let whole : take IDENTIFIER_NOTED c.args.identifier.now ≡ c.args.identifier.now = take_all IDENTIFIER_NOTED c.args.identifier.now (search rules) in
    search (rules, whole)
