use Rattle.mac_calls.specs.Counted.{are_few}
use Rattle.mac_calls.specs.Made.{mint_reply}
use Rattle.mac_calls.proofs.WireLemmas.{if_few}
use Rattle.mac_calls.proofs.laws.mints_as_the_wire.Goals as goal

pub returns : goal.returns
returns c keys form name location identifier caveats back moment text is_made =
    if_few (are_few caveats) form (mint_reply keys form location identifier caveats) text is_made
