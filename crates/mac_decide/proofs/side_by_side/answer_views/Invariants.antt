use Rattle.std.proofs.Common.{◌≡◌, ◌++◌, map}
use Rattle.mac_decide.specs.Prepared.{reply_to_job}
use Rattle.mac_decide.specs.Viewed.{viewed}
use Rattle.mac_decide.proofs.side_by_side.answer_views.Given as goal

-- the replies so far, and those to the jobs that are left, are all
abbrev pub invariant-loop-run : goal.invariant-loop-run
invariant-loop-run l = record {
  replies : l.replies.items ++ map reply_to_job (map viewed l.run-iterator.rest.now) ≡ map reply_to_job (map viewed l.jobs);
  size : l.run-iterator.size ≡ 32;
}
