-- The posts that the outbound half of a connection took: each as its place and, unless memory ran
-- out, the job that it answers.
use Rattle.std.specs.Prelude.{◌≡◌, ◌≢◌, ◌⊎◌, ℕ, ◌+◌, ◌<◌, ◌≤◌, List, ◌∷◌, ◌++◌, Option, Some, Contains, slice_get}
use Rattle.mac_order.specs.declared.reorder.TheConstants.{SLOTS}
use Rattle.mac_decide.specs.declared.job.Job.{Job}

-- for each of the first places there was a post with the job that stands there
abbrev pub AreAnswered : List Job → ℕ → List (ℕ × Option Job) → Type 0
AreAnswered jobs places posts =
    (place : ℕ) (job : Job) → place < places → slice_get jobs place ≡ Some job
    → Contains posts (place, Some job)

-- a post that no honest worker makes: another job stands at its place, or its place had a post
-- before, or is 128 or more above the next to be sent
abbrev pub IsForeign : List Job → ℕ → List (ℕ × Option Job) → ℕ → Job → Type 0
IsForeign jobs sent earlier place job =
    ((other : Job) × (slice_get jobs place ≡ Some other) × (other ≢ job))
    ⊎ (((other : Job) × Contains earlier (place, Some other)) ⊎ (sent + SLOTS ≤ place))

-- such a post was among these
pub record TookForeign (jobs : List Job) (sent : ℕ) (posts : List (ℕ × Option Job)) : Type 0 where
  pub earlier : List (ℕ × Option Job)
  pub place : ℕ
  pub job : Job
  pub later : List (ℕ × Option Job)
  pub among : posts ≡ earlier ++ ((place, Some job) ∷ later)
  pub is_foreign : IsForeign jobs sent earlier place job
