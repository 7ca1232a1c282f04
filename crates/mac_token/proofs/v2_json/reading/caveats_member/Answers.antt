-- The caveats are refused where one of the items is no caveat.
use Rattle.std.proofs.lemmas.Result.{err_from_is_err_and}
use Rattle.mac_token.proofs.JsonCaveats.{caveat_within, caveats_more}
use Rattle.mac_token.proofs.Refusals.{Refuses-whole}
use Rattle.mac_token.proofs.v2_json.reading.caveats_member.Goals as goal

pub returns-in_err-caveat_of : goal.returns-in_err-caveat_of
returns-in_err-caveat_of c =
    let p = err_from_is_err_and c.from_residual-in_err-caveat_of.result c.from_residual-in_err-caveat_of.ensures.1 in
    let list = rw c.deref-item-items.ensures.value at c.item-item.is in
    let below = rw c.deref-item-items.ensures.value at c.loop-item-test.true in
    rw (p.1, p.2) (Refuses-whole _ _
    (λ caveats h. caveat_within _ _ _ caveats c.loop-item.item-index c.item-item.result c.in-Some.ensures c.in-Some-as_array.ensures below list h)
    _ c.in_err-caveat_of.ensures)

pub loop-item-preserved : goal.loop-item-preserved
loop-item-preserved c =
    rw c.in_ok-push.ensures.items (caveats_more _ _ _ _ _ c.loop-item-test.true c.item-item.is c.loop-item.invariant c.in_ok-caveat_of.ensures)
