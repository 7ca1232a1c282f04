use Rattle.std.proofs.Common.{◌≡◌, ◌≤◌, length, map, take}
use Rattle.std.specs.Vec.{vec_capacity}
use Rattle.mac_order.proofs.service.Service.work_all.Given as goal

abbrev pub invariant-loop-job : goal.invariant-loop-job
invariant-loop-job g l = record {
  room : length l.jobs ≤ vec_capacity l.replies;
  done : l.replies.items ≡ map g.Self.Service.reply_to (take l.job-index l.jobs);
}
