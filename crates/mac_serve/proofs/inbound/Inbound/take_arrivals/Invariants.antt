use Rattle.std.proofs.Common.{◌≡◌, ◌++◌, length}
use Rattle.std.specs.Vec.Iter.{into_iter_items, into_iter_len}
use Rattle.mac_serve.specs.Receiving.{TakesUnder}
use Rattle.mac_serve.proofs.ReceivingLemmas.{HasTaken}
use Rattle.mac_serve.proofs.inbound.Inbound.take_arrivals.Given as goal

-- the arrivals so far were taken in, each under the table and at the moment that its look came to, and with those that
-- are left they are all
abbrev pub invariant-loop-arrival : goal.invariant-loop-arrival
invariant-loop-arrival g l = record {
  all : l.yielded ++ into_iter_items l.arrival-iterator ≡ into_iter_items l.initial.arrival-iterator;
  left : into_iter_len l.arrival-iterator ≡ length (into_iter_items l.arrival-iterator);
  took : HasTaken (TakesUnder l.rights g.K.Outlook.tells (g.K.Outlook.known l.initial.outlook) (g.K.Outlook.known l.outlook)) l.yielded l.initial.self l.self;
}
