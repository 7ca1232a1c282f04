use Rattle.std.proofs.Common.{arith, ◌∙◌}
use Rattle.std.proofs.lemmas.List.{length-set}
use Rattle.std.proofs.Math.Seq.{map-set_same}
use Rattle.mac_decide.specs.Prepared.{comes_to}
use Rattle.mac_decide.proofs.PreparedLemmas.{next-here, still-ahead}
use Rattle.mac_decide.proofs.side_by_side.fold_all.Goals as goal
use Rattle.mac_decide.proofs.side_by_side.fold_all.Goals.{then-next-place+then-place-run, else-next-place}

pub fold-requires : goal.fold-requires
fold-requires c =
    next-here c.args.run.now c.loop-lane.run c.args.places.now c.args.signatures.now c.loop-lane.lane c.loop-lane.next c.index-run-place.result c.index-signatures-lane.result
    c.requires c.loop-lane.invariant.ahead (omega (arith, c.if-next-place.true)) (omega (arith, c.if-place-run.true)) (omega (arith, c.loop-lane-test.true))
    (omega (arith, c.type_inv.signatures, c.loop-lane-test.true))

pub loop-lane-preserved : goal.loop-lane-preserved
loop-lane-preserved c =
    elim c.if-next-place.branch [
      | then-next-place+then-place-run w ↦ rw (w.run-is, w.next-is) (record {
        count = length-set _ _ _ ∙ c.loop-lane.invariant.count;
        replies = map-set_same comes_to c.loop-lane.run _ w.fold.new.self w.index-run-place.result w.fold.ensures ∙ c.loop-lane.invariant.replies;
        ahead = still-ahead c.loop-lane.run c.args.run.now c.loop-lane.next _ w.fold.new.self (omega (arith, w.if-next-place.true)) c.loop-lane.invariant.ahead;
      })
      | else-next-place w ↦ rw (w.run-is, w.next-is) c.loop-lane.invariant
    ]
