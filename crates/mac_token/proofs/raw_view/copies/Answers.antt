use Rattle.std.proofs.Common.{refl, sym, ap, arith, Some}
use Rattle.std.proofs.lemmas.Result.{err_from_is_err_and}
use Rattle.mac_token.proofs.CaveatsIn.{copies_more, copies_shorter, copies_refused, copies_end}
use Rattle.mac_token.proofs.raw_view.copies.Goals as goal

pub loop-section-init : goal.loop-section-init
loop-section-init c = rw c.new-caveats.ensures.items (record { all = refl; read = c.requires; fits = λ i. omega (arith, c.type_inv.bytes i) })

pub returns-in_err-caveat : goal.returns-in_err-caveat
returns-in_err-caveat c =
    let p = err_from_is_err_and c.from_residual.result c.from_residual.ensures.1 in
    rw (p.1, p.2) (copies_refused _ _ _ _ _ _ c.in_err-caveat.field-0.0 c.loop-section.invariant (sym c.in-Some.ensures) c.in_err-caveat.ensures)

pub loop-section-smaller : goal.loop-section-smaller
loop-section-smaller c = copies_shorter _ _ _ _ _ _ _ c.loop-section.invariant (sym c.in-Some.ensures) c.in_ok-caveat.ensures

pub loop-section-preserved : goal.loop-section-preserved
loop-section-preserved c = rw c.in_ok-push.ensures.items (copies_more _ _ _ _ _ _ _ c.loop-section.invariant (sym c.in-Some.ensures) c.in_ok-caveat.ensures)

pub returns : goal.returns
returns c = ap Some (copies_end _ _ _ _ c.loop-section.invariant (sym c.in_default.ensures))
