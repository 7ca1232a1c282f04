use Rattle.std.proofs.Common.{◌≡◌, ◌≤◌, length, map, take}
use Rattle.std.specs.Vec.{vec_capacity}
use Rattle.mac_board.specs.Noticed.{lent_current}
use Rattle.mac_decide.specs.Viewed.{viewed}
use Rattle.mac_plain.specs.Requests.{jobs_at}
use Rattle.mac_plain.proofs.answering.jobs_of_all.Given as goal

abbrev pub invariant-loop-request : goal.invariant-loop-request
invariant-loop-request g l = record {
  jobs : map viewed l.jobs.items ≡ jobs_at (lent_current l.round.current) l.clients l.round.arena.now (take l.request-index l.round.requests.now);
  count : length l.jobs.items ≡ l.request-index;
  room : length l.round.requests.now ≤ vec_capacity l.jobs;
}
