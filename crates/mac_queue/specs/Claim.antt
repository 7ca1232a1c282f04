-- What a claim does to the pass that makes it, and what it tells of the queue.
use Rattle.std.specs.Prelude.{◌≡◌, ⊤}
use Rattle.mac_queue.specs.Balance.{entry_of}
use Rattle.mac_queue.specs.Line.{Line}
use Rattle.mac_queue.specs.Pass.{Pass, with_claimed}
use Rattle.mac_queue.specs.declared.queue.Claim.{Claim}
use Rattle.mac_queue.specs.declared.queue.Claim.TheVariants.{Got, Empty, Closed}

-- a pass after a claim: a ticket that was got is one claim more, and else the pass is as it
-- was
abbrev pub after_claim : {S Job Reply : Type 0} → Pass Job → Claim S Job Reply → Pass Job
after_claim pass (Got ticket) = with_claimed pass (entry_of ticket)
after_claim pass (Empty found) = pass
after_claim pass (Closed found) = pass

-- a claim says empty only where its queue was found open, and closed only where it was found closed
abbrev pub IsSoClaimed : {S Job Reply : Type 0} → Line → Claim S Job Reply → Type 0
IsSoClaimed line (Got ticket) = ⊤
IsSoClaimed line (Empty found) = found ≡ line.closing
IsSoClaimed line (Closed found) = found ≡ line.closing
