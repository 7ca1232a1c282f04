use Rattle.mac_serve.specs.Receiving.{TakesUnder}
use Rattle.mac_serve.specs.declared.incoming.InboundFault.TheVariants as fault
use Rattle.mac_serve.proofs.ReceivingLemmas.{gives-up, goes-further}
use Rattle.mac_serve.proofs.inbound.Inbound.read_next.Goals as goal

pub returns-then-has_outbound_ended-clause-goes_on : goal.returns-then-has_outbound_ended-clause-goes_on
returns-then-has_outbound_ended-clause-goes_on g c rights tells begun known version past given start now on =
    gives-up g.In.Source.tells (TakesUnder rights tells begun known) version past given (g.In.Source.taken c.args.source.now) c.args.incoming.now.reader start now fault.Stopped on (λ is. absurd cc)

pub returns-clause-goes_on : goal.returns-clause-goes_on
returns-clause-goes_on g c rights tells begun known version past given start now on =
    goes-further g.In.Source.tells (TakesUnder rights tells begun known) version past given (g.In.Source.taken c.args.source.now) (g.In.Source.taken c.next.new.source) c.args.incoming.now.reader c.next.new.self.reader start now
    c.next.result on (λ stream handed read. c.next.ensures.reads stream handed read)
