use Rattle.std.proofs.Common.{◌≡◌, ◌≤◌, ◌++◌, length, map}
use Rattle.std.specs.Iterator.Adapters.{zip_first, zip_second}
use Rattle.std.specs.Vec.{vec_capacity}
use Rattle.std.specs.Vec.Iter.{into_iter_items}
use Rattle.mac_order.proofs.answer.Answer.make_all.Given as goal

abbrev pub invariant-loop-job : goal.invariant-loop-job
invariant-loop-job g l = record {
  runs : (goal.iterator-loop-job g).can_next l.job-iterator;
  ends : (goal.iterator-loop-job g).is_finite l.job-iterator;
  room : length l.fn.jobs.items ≤ vec_capacity l.answers;
  replies : into_iter_items (zip_second l.job-iterator) ≡ map g.S.Service.reply_to (into_iter_items (zip_first l.job-iterator));
  done : l.answers.items ++ into_iter_items (zip_first l.job-iterator) ≡ l.fn.jobs.items;
}
