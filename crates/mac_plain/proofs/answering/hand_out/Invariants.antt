use Rattle.std.proofs.Common.{ℕ, List, take}
use Rattle.mac_board.specs.Noticed.{Current}
use Rattle.mac_plain.specs.Goes.{AreAnswered}
use Rattle.mac_plain.specs.Requests.{AreReplies, asked_of, jobs_at}
use Rattle.mac_plain.proofs.answering.hand_out.Given as goal

abbrev pub invariant-loop-index : goal.invariant-loop-index
invariant-loop-index g l = (current : Current) (arena : List ℕ) → AreReplies (jobs_at current l.initial.clients arena l.run) l.replies
    → AreAnswered g.P.Port.tells g.P.Port.taken g.P.Port.written current (λ k. asked_of k arena (take l.index l.run)) l.initial.clients l.clients
