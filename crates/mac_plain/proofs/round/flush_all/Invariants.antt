use Rattle.std.proofs.Common.{[]}
use Rattle.mac_board.specs.Noticed.{Current}
use Rattle.mac_plain.specs.Goes.{AreRead}
use Rattle.mac_plain.proofs.round.flush_all.Given as goal

abbrev pub invariant-loop-index : goal.invariant-loop-index
invariant-loop-index g l = (current : Current) → AreRead g.P.Port.tells g.P.Port.taken g.P.Port.written current (λ _. []) l.initial.clients l.clients
