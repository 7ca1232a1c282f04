-- The world of macaroons: the core's events, with arrivals under their terms for its jobs.
use Rattle.mac_wire.specs.declared.arrival.Arrival.{Arrival}
use Rattle.mac_decide.specs.Answer.{basis_of}
use Rattle.mac_decide.specs.Terms.{Terms}
use Rattle.mac_decide.specs.declared.job.Job.{Job}

-- the job of an arrival under these terms: the arrival, and what it is answered on
abbrev pub job_under : Terms → Arrival → Job
job_under terms arrival = record { arrival = arrival; basis = basis_of terms arrival }
