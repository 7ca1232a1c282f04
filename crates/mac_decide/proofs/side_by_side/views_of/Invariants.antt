use Rattle.std.proofs.Common.{◌≡◌, length, map, take}
use Rattle.mac_decide.specs.Viewed.{viewed}
use Rattle.mac_decide.proofs.side_by_side.views_of.Given as goal

-- the views so far are those of the jobs so far
abbrev pub invariant-loop-job : goal.invariant-loop-job
invariant-loop-job l = record {
  jobs : map viewed l.views.items ≡ take l.job-index l.run;
  count : length l.views.items ≡ l.job-index;
}
