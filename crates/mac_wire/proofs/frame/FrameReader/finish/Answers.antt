use Rattle.mac_wire.proofs.Cutting.{is_not_broken, is_not_oversize}
use Rattle.mac_wire.proofs.Opening.{ended_in, ended_oversize_in}
use Rattle.mac_wire.proofs.frame.FrameReader.finish.Goals as goal

pub returns-in-Open-clause-ending : goal.returns-in-Open-clause-ending
returns-in-Open-clause-ending c stream handed so_far =
    ended_in c.args.self.version stream c.in-Open.partial handed c.ending.result (rw c.in-Open.is at so_far) c.ending.ensures.ending

pub returns-in-Open-clause-broken : goal.returns-in-Open-clause-broken
returns-in-Open-clause-broken c =
    (λ broken. absurd (is_not_broken c.ending.result c.ending.ensures.ongoing broken), λ broken. let is_open = c.in-Open.is in cc)

pub returns-in-Open-clause-ongoing : goal.returns-in-Open-clause-ongoing
returns-in-Open-clause-ongoing c _ has_ended = rw c.in-Open.is at has_ended

pub returns-in-Open-clause-ended : goal.returns-in-Open-clause-ended
returns-in-Open-clause-ended c oversize = absurd (is_not_oversize c.ending.result c.ending.ensures.ongoing oversize)

pub returns-in-Oversize-clause-ending : goal.returns-in-Oversize-clause-ending
returns-in-Oversize-clause-ending c stream handed so_far = ended_oversize_in c.args.self.version stream handed (rw c.in-Oversize.is at so_far)
