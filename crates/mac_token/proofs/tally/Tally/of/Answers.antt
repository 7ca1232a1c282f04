use Rattle.std.proofs.Common.{sym}
use Rattle.mac_token.proofs.TallyLemmas.{tallies_next, tallies_shorter, tallies_refused, tallies_stuck, tallies_end}
use Rattle.mac_token.proofs.tally.Tally.of.Goals as goal

pub returns-in_err-tally-clause-none : goal.returns-in_err-tally-clause-none
returns-in_err-tally-clause-none c =
    rw c.from_residual.ensures (tallies_refused _ _ _ _ _ _ c.loop-section.invariant (sym c.in-Some.ensures) c.in_err-tally.ensures)

pub loop-section-smaller : goal.loop-section-smaller
loop-section-smaller c = tallies_shorter _ _ _ _ _ _ _ c.loop-section.invariant (sym c.in-Some.ensures) c.in_ok-tally.ensures

pub loop-section-preserved : goal.loop-section-preserved
loop-section-preserved c = tallies_next _ _ _ _ _ _ _ c.loop-section.invariant (sym c.in-Some.ensures) c.in_ok-tally.ensures

pub returns-in_err-rest-clause-none : goal.returns-in_err-rest-clause-none
returns-in_err-rest-clause-none c =
    rw c.from_residual-in_err-rest.ensures (tallies_stuck _ _ _ _ c.loop-section.invariant (sym c.in_default.ensures) (sym c.in_err-rest.ensures))

pub returns-clause-found : goal.returns-clause-found
returns-clause-found c =
    let is = tallies_end _ _ _ _ _ c.loop-section.invariant (sym c.in_default.ensures) (sym c.in_ok-rest.ensures) in
    (is.read, is.tally)
