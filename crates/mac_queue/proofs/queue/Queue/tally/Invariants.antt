use Rattle.std.proofs.Common.{◌≡◌, ◌+◌, ◌*◌, ◌≤◌, ◌++◌, All, length}
use Rattle.std.specs.Vec.Iter.{into_iter_items}
use Rattle.crossbeam_queue.specs.Passes.{view, IsPassOf}
use Rattle.mac_queue.specs.Pass.{all_put, all_claimed}
use Rattle.mac_queue.specs.declared.queue.TheConstants.{PASSES, PUTS_MAX}
use Rattle.mac_queue.proofs.queue.Queue.tally.Given as goal

abbrev pub invariant-loop-pass : goal.invariant-loop-pass
invariant-loop-pass g l = record {
  runs : (goal.iterator-loop-pass g).can_next l.pass-iterator;
  ends : (goal.iterator-loop-pass g).is_finite l.pass-iterator;
  seat : IsPassOf l.self-inside.cells l.whole;
  queue : All (λ pass. pass.queue ≡ l.self-inside.cells.table.shared.table_id) (into_iter_items l.pass-iterator);
  parts : (view l.whole).parts + length (into_iter_items l.pass-iterator) ≡ PASSES;
  put : (view l.whole).put ++ all_put (into_iter_items l.pass-iterator) ≡ all_put l.fn.passes.items;
  claimed : (view l.whole).claimed ++ all_claimed (into_iter_items l.pass-iterator) ≡ all_claimed l.fn.passes.items;
  count : l.put ≡ length (view l.whole).put;
  bound : l.put ≤ (view l.whole).parts * PUTS_MAX;
}
