-- What the buffer sends is the reply to the job that was received at the next place.
use Rattle.std.proofs.Common.{sym, subst}
use Rattle.mac_order.proofs.Releases.{Goes, goes}
use Rattle.mac_order.proofs.outlet.Outlet.release.Goals as goal

-- what the buffer's call came to
went : (g : _) (c : goal.After-next g) → Goes g.S.Job.PartialEq.eq g.S.Service.reply_to c.self.inside.consumer c.self.inside.buffer (c.next.result, c.next.new.self)
went g c =
    let inside = c.self.inside in
    subst (λ out. Goes g.S.Job.PartialEq.eq g.S.Service.reply_to inside.consumer inside.buffer out) (sym c.next.ensures.next)
    (goes g.S.Job.PartialEq.eq g.S.Service.reply_to inside.consumer inside.buffer c.self.invariant)

pub invariant_of-self : goal.invariant_of-self
invariant_of-self g c = (went g c).kept

pub returns-clause-kept : goal.returns-clause-kept
returns-clause-kept g c = (went g c).kept

pub returns-clause-releases : goal.returns-clause-releases
returns-clause-releases g c = rw (← c.self.view_is) (went g c).releases

pub returns-clause-released : goal.returns-clause-released
returns-clause-released g c = rw (← c.self.view_is) (went g c).released
