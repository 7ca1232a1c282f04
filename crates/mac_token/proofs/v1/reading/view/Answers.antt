use Rattle.std.proofs.Common.{arith, ap, sym}
use Rattle.std.specs.Prelude.{is_some}
use Rattle.mac_token.proofs.CaveatsIn.{field_rest_fits}
use Rattle.mac_token.proofs.v1.reading.view.Goals as goal

pub invariant_of-result : goal.invariant_of-result
invariant_of-result c =
    let bytes = field_rest_fits _ _ _ _ (λ i. omega (arith, c.type_inv.bytes i)) (sym c.in_ok-location.ensures) in
    let caveats = field_rest_fits _ _ _ _ bytes (sym c.in_ok-identifier.ensures) in
    (ap is_some c.in_ok-tally.ensures.found.0, caveats, c.in_ok-tally.ensures.found.1)
