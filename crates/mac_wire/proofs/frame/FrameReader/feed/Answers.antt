use Rattle.std.proofs.Common.{List, ℕ, sym, subst, ◌∙◌}
use Rattle.mac_wire.specs.declared.frame.Stage.{Stage}
use Rattle.mac_wire.specs.FrameReader.{HasReadIn}
use Rattle.mac_wire.specs.Steps.{Cuts}
use Rattle.mac_wire.proofs.Opening.{ended_at, reads_in, tells_after, tells_ended}
use Rattle.mac_wire.proofs.frame.FrameReader.feed.Goals as goal

pub returns-in_ok-arrivals-in-Open-clause-arrivals : goal.returns-in_ok-arrivals-in-Open-clause-arrivals
returns-in_ok-arrivals-in-Open-clause-arrivals c stream handed so_far =
    let v = c.args.self.now.version in
    let now = c.in_ok-arrivals-in-Open.stage in
    let arrivals = c.in_ok-arrivals-in-Open.arrivals.items in
    let before = subst (λ (s : Stage). HasReadIn v s stream handed) (sym c.in-Open.ensures.value) so_far in
    let cuts = subst (λ (l : List ℕ). Cuts c.in-Open.partial l arrivals now) c.opened-version.ensures.frames c.in_ok-arrivals-in-Open.ensures.cuts in
    rw c.opened-version.ensures.version (reads_in v now stream c.in-Open.partial c.args.piece.now handed arrivals before cuts)

pub returns-in_err-arrivals-in-Open-clause-version : goal.returns-in_err-arrivals-in-Open-clause-version
returns-in_err-arrivals-in-Open-clause-version c stream handed so_far =
    c.opened-version.ensures.version ∙ tells_after c.args.self.now.version c.args.self.now.stage stream c.args.piece.now handed so_far

pub returns-in_ok-arrivals-in-Open-clause-version : goal.returns-in_ok-arrivals-in-Open-clause-version
returns-in_ok-arrivals-in-Open-clause-version c stream handed so_far =
    c.opened-version.ensures.version ∙ tells_after c.args.self.now.version c.args.self.now.stage stream c.args.piece.now handed so_far

pub returns-in_default-clause-version : goal.returns-in_default-clause-version
returns-in_default-clause-version c stream handed so_far = tells_ended c.args.self.now.version c.args.self.now.stage stream c.args.piece.now handed so_far
    (ended_at c.args.self.now.stage (λ held is. c.in_default.not-Open held (c.replace.ensures.value ∙ is)))
