use Rattle.std.proofs.Common.{rules, sym, ◌∙◌, append-nil}
use Rattle.mac_wire.proofs.Opening.{version_tells}
use Rattle.mac_serve.proofs.incoming.Incoming.next.Goals as goal

pub returns-then-faults-eq18446744073709551615-clause-reads : goal.returns-then-faults-eq18446744073709551615-clause-reads
returns-then-faults-eq18446744073709551615-clause-reads g c stream handed read =
    (λ told. sym (append-nil (g.In.Source.taken c.args.source.now)), version_tells c.args.self.now.reader.version c.args.self.now.reader.stage stream handed read)

pub returns-in-Err-clause-reads : goal.returns-in-Err-clause-reads
returns-in-Err-clause-reads g c stream handed read = (
  λ told. c.in-Err.ensures.taken told ∙ sym (append-nil (g.In.Source.taken c.args.source.now)),
  read,
  search rules,
)
