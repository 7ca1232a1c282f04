use Rattle.std.proofs.Common.{sym, ap, ◌∙◌}
use Rattle.mac_wire.specs.Frame.{frames_of}
use Rattle.mac_wire.proofs.Partials.{ends_clean, ends_torn}
use Rattle.mac_wire.proofs.partial.Partial.ending.Goals as goal

pub returns-then-self-eq0-clause-ending : goal.returns-then-self-eq0-clause-ending
returns-then-self-eq0-clause-ending c =
    let i = c.self.inside in
    sym (ap frames_of c.self.view_is) ∙ ends_clean i.length i.have i.payload.items c.self.invariant c.if-self-eq0.true

pub returns-else-self-eq0-clause-ending : goal.returns-else-self-eq0-clause-ending
returns-else-self-eq0-clause-ending c =
    let i = c.self.inside in
    sym (ap frames_of c.self.view_is) ∙ ends_torn i.length i.have i.payload.items c.self.invariant c.if-self-eq0.false
