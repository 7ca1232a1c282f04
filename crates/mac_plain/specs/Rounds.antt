-- What a round did on all its clients, and rounds on one of them.
use Rattle.std.specs.Prelude.{◌≡◌, ℕ, Bool, List, [], ◌∷◌, ◌++◌, map}
use Rattle.mac_board.specs.Noticed.{Current, IsCurrent, Noticed}
use Rattle.mac_decide.specs.declared.job.Job.{Job}
use Rattle.mac_decide.specs.declared.rights.Rights.{Rights}
use Rattle.mac_plain.specs.Client.{Answers, Serves, jobs_of}
use Rattle.mac_plain.specs.Pairs.{EachPair}
use Rattle.mac_plain.specs.declared.client.Client.{Client}

-- each client was served under the one table that is up, at the one moment that was told
pub record ServesEach {P : Type 0} (tells : Bool) (taken written : P → List ℕ) (known : Noticed)
    (olds news : List (Client P)) : Type 0 where
  pub current : Current
  pub is_current : IsCurrent known current
  pub each : EachPair (λ _ before after. Serves tells taken written current before after) olds news

-- a client was served once under each of these, one after the other
abbrev pub ServesUnder : {P : Type 0} → Bool → (taken written : P → List ℕ) → List Current
    → Client P → Client P → Type 0
ServesUnder tells taken written [] before after = after ≡ before
ServesUnder {P} tells taken written (current ∷ currents) before after =
    (now : Client P) × Serves tells taken written current before now
    × ServesUnder tells taken written currents now after

-- the jobs of payloads under these rights, those of each round under its own table and at its own
-- moment
abbrev pub jobs_under : Rights → List (Current × List (List ℕ)) → List Job
jobs_under rights [] = []
jobs_under rights (round ∷ rounds) =
    jobs_of (record { table = round.0.table; rights = rights; moment = round.0.moment }) round.1
    ++ jobs_under rights rounds

-- from the one to the other, the requests of rounds were answered, each under the table of its own
-- round, at the moment of that, and under the rights that the client had
pub record AnswersUnder {P : Type 0} (tells : Bool) (taken written : P → List ℕ)
    (currents : List Current) (before after : Client P) : Type 0 where
  pub rounds : List (Current × List (List ℕ))
  pub currents_are : map (λ round. round.0) rounds ≡ currents
  pub answers : Answers tells taken written before after (jobs_under before.rights.value rounds)
