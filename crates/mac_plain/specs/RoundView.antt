-- Requests of a round, with what is up as they are answered (this project's own).
use Rattle.std.specs.Prelude.{ℕ, ◌≤◌, List, length, slice_get}
use Rattle.mac_board.specs.Noticed.{Current, lent_current}
use Rattle.mac_decide.specs.declared.job.Job.{Job}
use Rattle.mac_plain.specs.Requests.{AreWithin, asked_of, job_at, jobs_at}
use Rattle.mac_plain.specs.declared.client.Client.{Client}
use Rattle.mac_plain.specs.declared.request.RoundRequest.{RoundRequest}
use Rattle.mac_plain.specs.declared.request.RoundView.{RoundView}

-- the key table and the moment that they are answered under
abbrev pub up_in : RoundView → Current
up_in round = lent_current round.current

-- the payloads of one client's requests among them
abbrev pub asked_in : RoundView → ℕ → List (List ℕ)
asked_in round owner = asked_of owner round.arena.now round.requests.now

-- the job of a request of the round, under the rights of its client
abbrev pub job_in : {P : Type 0} → RoundView → List (Client P) → RoundRequest → Job
job_in round clients request =
    job_at (up_in round) round.arena.now request (slice_get clients request.owner)

-- the jobs of all of them
abbrev pub jobs_in : {P : Type 0} → RoundView → List (Client P) → List Job
jobs_in round clients = jobs_at (up_in round) clients round.arena.now round.requests.now

-- a request lies in what the round read
abbrev pub LiesIn : RoundView → RoundRequest → Type 0
LiesIn round request =
    (request.start ≤ request.end) × (request.end ≤ length round.arena.now)

-- each of them does
abbrev pub LieWithin : RoundView → Type 0
LieWithin round = AreWithin (length round.arena.now) round.requests.now
