use Rattle.mac_wire.proofs.Sessions.{resumes}
use Rattle.mac_wire.proofs.frame.FrameReader.resumed.Goals as goal

pub returns-clause-arrivals : goal.returns-clause-arrivals
returns-clause-arrivals c stream arrived come =
    resumes c.args.version c.in_ok-arrivals.stage stream c.args.carried.now arrived c.in_ok-arrivals.arrivals.items come
    (rw c.new.ensures at c.in_ok-arrivals.ensures.cuts)
