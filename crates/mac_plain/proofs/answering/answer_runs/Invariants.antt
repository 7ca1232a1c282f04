use Rattle.std.proofs.Common.{◌≤◌, ◌-◌, length, take}
use Rattle.mac_board.specs.Noticed.{lent_current}
use Rattle.mac_plain.specs.Goes.{AreAnswered}
use Rattle.mac_plain.specs.Requests.{asked_of}
use Rattle.mac_plain.proofs.answering.answer_runs.Given as goal

abbrev pub invariant-loop-at : goal.invariant-loop-at
invariant-loop-at g l = record {
  inside : l.at ≤ length l.round.requests.now;
  answered : AreAnswered g.P.Port.tells g.P.Port.taken g.P.Port.written (lent_current l.round.current) (λ k. asked_of k l.round.arena.now (take l.at l.round.requests.now)) l.initial.clients l.clients;
}

abbrev pub decreases-loop-at : goal.decreases-loop-at
decreases-loop-at g l = length l.round.requests.now - l.at
