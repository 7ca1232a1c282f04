-- The requests of a round, where they lie in what was read.
use Rattle.std.specs.Prelude.{◌≡◌, ℕ, ◌≤◌, List, [], ◌∷◌, ◌++◌, All, Some, None, Option, false, ◌==◌, map, slice_get, slice_range}
use Rattle.std.specs.List.{filter}
use Rattle.mac_board.specs.Noticed.{Current}
use Rattle.mac_wire.specs.declared.arrival.Arrival.TheVariants as arrival
use Rattle.mac_wire.specs.declared.reply.Reply.{Reply}
use Rattle.mac_decide.specs.declared.job.Job.{Job}
use Rattle.mac_decide.specs.Prepared.{reply_to_job}
use Rattle.mac_decide.specs.World.{job_under}
use Rattle.mac_plain.specs.Client.{terms_for}
use Rattle.mac_plain.specs.declared.client.Client.{Client}
use Rattle.mac_plain.specs.declared.request.RoundRequest.{RoundRequest}

-- the payload of a request
abbrev pub payload_at : List ℕ → RoundRequest → List ℕ
payload_at arena request = slice_range arena request.start request.end

-- the payloads of one owner's requests
abbrev pub asked_of : ℕ → List ℕ → List RoundRequest → List (List ℕ)
asked_of owner arena requests = map (payload_at arena) (filter (λ r. r.owner == owner) requests)

-- the job of a request, under a table, at a moment and under the rights of its client; where there
-- is no such client it asks nothing
abbrev pub job_at : {P : Type 0} → Current → List ℕ → RoundRequest → Option (Client P) → Job
job_at current arena request (Some client) =
    job_under (terms_for current client) (arrival.Payload (payload_at arena request))
job_at current arena request None =
    record {
      arrival = arrival.Oversize;
      basis = record { keys = None; is_revoked = false; may_mint = false; moment = None };
    }

-- the jobs of requests under a table and at a moment, each under the rights of its own client
abbrev pub jobs_at : {P : Type 0} → Current → List (Client P) → List ℕ → List RoundRequest → List Job
jobs_at current clients arena requests =
    map (λ r. job_at current arena r (slice_get clients r.owner)) requests

-- these are the replies to the jobs, in order, one to each
abbrev pub AreReplies : List Job → List Reply → Type 0
AreReplies jobs replies = replies ≡ map reply_to_job jobs

-- each request lies in that many bytes
abbrev pub AreWithin : ℕ → List RoundRequest → Type 0
AreWithin room requests = All (λ r. (r.start ≤ r.end) × (r.end ≤ room)) requests

-- each request is this owner's
abbrev pub AreOwned : ℕ → List RoundRequest → Type 0
AreOwned owner [] = Unit {0}
AreOwned owner (r ∷ rs) = (r.owner ≡ owner) × AreOwned owner rs

-- these requests of this owner, which lie in that many bytes, were put behind others
pub record Adds (owner room : ℕ) (before after own : List RoundRequest) : Type 0 where
  pub are : after ≡ before ++ own
  pub owned : AreOwned owner own
  pub within : AreWithin room own
