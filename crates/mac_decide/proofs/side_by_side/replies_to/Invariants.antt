use Rattle.std.proofs.Common.{◌≡◌, length, map, take}
use Rattle.mac_decide.specs.Prepared.{reply_to_job}
use Rattle.mac_decide.specs.Viewed.{viewed}
use Rattle.mac_decide.proofs.side_by_side.replies_to.Given as goal

-- the replies so far are those to the jobs so far
abbrev pub invariant-loop-place : goal.invariant-loop-place
invariant-loop-place l = record {
  replies : l.replies.items ≡ map reply_to_job (map viewed (take l.place l.jobs));
  count : length l.replies.items ≡ l.place;
}
