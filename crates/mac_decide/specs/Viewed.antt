-- Jobs whose payloads lie in somebody's bytes (this project's own).
use Rattle.std.specs.Option.{option_copied}
use Rattle.mac_wire.specs.declared.arrival.Arrival.{Arrival}
use Rattle.mac_wire.specs.declared.arrival.Arrival.TheVariants as arrival
use Rattle.mac_decide.specs.Revocation.{asked_in, asked_revoked}
use Rattle.mac_decide.specs.declared.job.Basis.{Basis}
use Rattle.mac_decide.specs.declared.job.Job.{Job}
use Rattle.mac_decide.specs.declared.job_view.ArrivalView.{ArrivalView}
use Rattle.mac_decide.specs.declared.job_view.ArrivalView.TheVariants as view
use Rattle.mac_decide.specs.declared.job_view.JobView.{JobView}

-- the arrival that lies there
abbrev pub arrival_of : ArrivalView → Arrival
arrival_of (view.Payload payload) = arrival.Payload payload.now
arrival_of view.Oversize = arrival.Oversize

-- what it is answered on
abbrev pub viewed_basis : JobView → Basis
viewed_basis job = record {
  keys = option_copied job.keys;
  is_revoked = asked_revoked job.revoked (asked_in (arrival_of job.arrival));
  may_mint = job.may_mint;
  moment = job.moment;
}

-- the job whose arrival lies there
abbrev pub viewed : JobView → Job
viewed job = record { arrival = arrival_of job.arrival; basis = viewed_basis job }
