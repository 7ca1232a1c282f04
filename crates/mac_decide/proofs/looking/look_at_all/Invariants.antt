use Rattle.std.proofs.Common.{◌≡◌, ◌+◌, ◌++◌, length, map, take}
use Rattle.mac_decide.specs.Prepared.{reply_to_job}
use Rattle.mac_decide.specs.Seen.{due_of}
use Rattle.mac_decide.specs.Viewed.{viewed}
use Rattle.mac_decide.proofs.looking.look_at_all.Given as goal

-- the sights so far are those that were there, and those of the jobs so far
abbrev pub invariant-loop-job : goal.invariant-loop-job
invariant-loop-job l = record {
  sights : map due_of l.sights.items ≡ map due_of l.initial.sights.items ++ map reply_to_job (map viewed (take l.job-index l.jobs));
  count : length l.sights.items ≡ length l.initial.sights.items + l.job-index;
}
