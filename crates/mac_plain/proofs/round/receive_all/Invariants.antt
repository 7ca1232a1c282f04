use Rattle.std.proofs.Common.{length}
use Rattle.mac_board.specs.Noticed.{Current}
use Rattle.mac_plain.specs.Goes.{AreRead}
use Rattle.mac_plain.specs.Requests.{AreWithin, asked_of}
use Rattle.mac_plain.proofs.round.receive_all.Given as goal

abbrev pub invariant-loop-index : goal.invariant-loop-index
invariant-loop-index g l = record {
  within : AreWithin (length l.intake.arena.items) l.intake.requests.items;
  read : (current : Current) → AreRead g.P.Port.tells g.P.Port.taken g.P.Port.written current (λ k. asked_of k l.intake.arena.items l.intake.requests.items) l.initial.clients l.clients;
}
