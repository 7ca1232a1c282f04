use Rattle.mac_calls.specs.Counted.{are_few}
use Rattle.mac_calls.specs.Made.{attenuate_reply}
use Rattle.mac_calls.proofs.WireLemmas.{if_few}
use Rattle.mac_calls.proofs.laws.attenuates_as_the_wire.Goals as goal

pub returns : goal.returns
returns c form token caveats basis text is_made =
    if_few (are_few caveats) form (attenuate_reply form token caveats) text is_made
