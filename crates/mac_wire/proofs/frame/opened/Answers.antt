use Rattle.std.proofs.Common.{sym, ap, ◌∙◌}
use Rattle.std.specs.Prelude.{Option}
use Rattle.mac_wire.specs.declared.version.Version.{Version}
use Rattle.mac_wire.specs.Steps.{told_after}
use Rattle.mac_wire.specs.Stream.{version_told}
use Rattle.mac_wire.proofs.Opening.{tells_hello, tells_other}
use Rattle.mac_wire.proofs.frame.opened.Goals as goal

pub returns-then-first-eq-HELLO-clause-version : goal.returns-then-first-eq-HELLO-clause-version
returns-then-first-eq-HELLO-clause-version c =
    let e = c.in-None-Some in
    tells_hello e.first.now e.rest.now c.if-first-eq-HELLO.true ∙ ap version_told (sym e.ensures.cases.0)
    ∙ ap (λ (v : Option Version). told_after v c.args.piece.now) (sym e.is-0)

pub returns-else-first-eq-HELLO-clause-version : goal.returns-else-first-eq-HELLO-clause-version
returns-else-first-eq-HELLO-clause-version c =
    let e = c.in-None-Some in
    tells_other e.first.now e.rest.now c.if-first-eq-HELLO.false ∙ ap version_told (sym e.ensures.cases.0)
    ∙ ap (λ (v : Option Version). told_after v c.args.piece.now) (sym e.is-0)
