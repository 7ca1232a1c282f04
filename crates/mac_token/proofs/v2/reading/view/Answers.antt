use Rattle.std.proofs.Common.{arith, ap, sym}
use Rattle.std.specs.Prelude.{is_some}
use Rattle.mac_token.proofs.V2Sections.{head_takes}
use Rattle.mac_token.proofs.v2.reading.view.Goals as goal

pub invariant_of-result : goal.invariant_of-result
invariant_of-result c =
    let head = head_takes _ _ _ (λ i. omega (arith, c.type_inv.bytes i)) (sym c.in_ok-own.ensures) in
    (ap is_some c.in_ok-tally.ensures.found.0, head.0.rest_fits, c.in_ok-tally.ensures.found.1)
