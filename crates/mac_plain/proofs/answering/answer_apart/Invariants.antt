use Rattle.std.proofs.Common.{take}
use Rattle.mac_board.specs.Noticed.{lent_current}
use Rattle.mac_plain.specs.Goes.{AreAnswered}
use Rattle.mac_plain.specs.Requests.{asked_of}
use Rattle.mac_plain.proofs.answering.answer_apart.Given as goal

abbrev pub invariant-loop-index : goal.invariant-loop-index
invariant-loop-index g l =
    AreAnswered g.P.Port.tells g.P.Port.taken g.P.Port.written (lent_current l.run.current) (λ k. asked_of k l.run.arena.now (take l.index l.run.requests.now)) l.initial.clients l.clients
