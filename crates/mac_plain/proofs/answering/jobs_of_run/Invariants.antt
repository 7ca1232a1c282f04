use Rattle.std.proofs.Common.{◌≡◌, length, map, take}
use Rattle.mac_board.specs.Noticed.{lent_current}
use Rattle.mac_decide.specs.Viewed.{viewed}
use Rattle.mac_plain.specs.Requests.{jobs_at}
use Rattle.mac_plain.proofs.answering.jobs_of_run.Given as goal

abbrev pub invariant-loop-request : goal.invariant-loop-request
invariant-loop-request g l = record {
  jobs : map viewed l.jobs.items ≡ jobs_at (lent_current l.run.current) l.clients l.run.arena.now (take l.request-index l.run.requests.now);
  count : length l.jobs.items ≡ l.request-index;
}
