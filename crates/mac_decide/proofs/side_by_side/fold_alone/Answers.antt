use Rattle.std.proofs.Math.Seq.{map-set_same}
use Rattle.mac_decide.specs.Prepared.{comes_to}
use Rattle.mac_decide.proofs.side_by_side.fold_alone.Goals as goal

pub returns-then-place-run : goal.returns-then-place-run
returns-then-place-run c = map-set_same comes_to c.args.run.now _ c.fold_next.new.self c.index-run-place.result c.fold_next.ensures
