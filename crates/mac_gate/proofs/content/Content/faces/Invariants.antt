use Rattle.std.proofs.Common.{◌≡◌, replicate}
use Rattle.mac_gate.specs.Offered.{offers_of}
use Rattle.mac_gate.proofs.content.Content.faces.Given as goal

abbrev pub invariant-loop : goal.invariant-loop
invariant-loop l = offers_of l.contents.items ≡ replicate l.counter l.offer.value
