use Rattle.std.proofs.Common.{arith, ◌∙◌}
use Rattle.mac_wire.proofs.Asking.{parsed-asks, request_of-asks}
use Rattle.mac_wire.proofs.parse.parse_request.Goals as goal

pub returns-clause-found : goal.returns-clause-found
returns-clause-found c = parsed-asks c.args.payload.now c.request.result (λ i. omega (arith, c.type_inv.payload i)) c.request.ensures

pub returns-clause-only : goal.returns-clause-only
returns-clause-only c q asks = c.request.ensures ∙ request_of-asks c.args.payload.now q asks
