-- What contracts see of a pool.
use Rattle.std.specs.Prelude.{◌≡◌, ◌++◌, ◌≤◌, ◌<◌, ℕ, List, [], ◌∷◌, length, map, Option, None, Some, slice_get, slice_set, refl}
use Rattle.std.specs.Coded.{Coded, code_by, coded×, coded_list, coded_option, coded_ℕ}
use Rattle.atomic_table.specs.Seated.{TableId, table_id_coded}
use Rattle.mac_queue.specs.Pass.{Pass, pass_code, IsFresh}
use Rattle.mac_queue.specs.Tally.{IsTally}
use Rattle.mac_queue.specs.declared.queue.TheConstants.{PASSES}
use Rattle.mac_queue.specs.declared.queue.tally.Tally.{Tally}
use Rattle.mac_pool.specs.Parcel.{Pairwise, IsAnswered}
use Rattle.mac_pool.specs.declared.work.Worked.{Worked}
use Rattle.mac_pool.specs.declared.pool.TheConstants.{WORKERS_MAX}

-- a pool: its queue, the number of its workers, and its passes by their numbers, None where one is
-- out
pub record Slots (Job : Type 0) : Type 0 where
  pub queue : TableId
  pub workers : ℕ
  pub passes : List (Option (Pass Job))

abbrev pub slots_code : {Job : Type 0} → Coded Job → Coded (Slots Job)
slots_code {Job} job =
    code_by (TableId × (ℕ × List (Option (Pass Job))))
    (coded× table_id_coded (coded× coded_ℕ (coded_list (coded_option (pass_code job)))))
    (λ p. (p.queue, (p.workers, p.passes)))
    (λ p. record { queue = p.0; workers = p.1.0; passes = p.1.1 })
    (λ _. refl)

module _ {Job : Type 0} where
  -- the passes that are at home
  abbrev pub at_home : List (Option (Pass Job)) → List (Pass Job)
  at_home [] = []
  at_home (None ∷ slots) = at_home slots
  at_home (Some pass ∷ slots) = pass ∷ at_home slots

  -- the passes from one number up to another are out
  abbrev pub AreOut : ℕ → ℕ → List (Option (Pass Job)) → Type 0
  AreOut from to slots =
      (number : ℕ) → from ≤ number → number < to → slice_get slots number ≡ Some None

  -- the pass of this number is at home
  abbrev pub IsHome : ℕ → List (Option (Pass Job)) → Type 0
  IsHome number slots = (pass : Pass Job) × (slice_get slots number ≡ Some (Some pass))

  -- the pass was at home, and is out now
  pub record IsGiven (before : Slots Job) (pass : Pass Job) (after : Slots Job) : Type 0 where
    pub queue_is : pass.queue ≡ before.queue
    pub was_home : slice_get before.passes pass.number ≡ Some (Some pass)
    pub after_is : after ≡ record before { passes = slice_set before.passes pass.number None }

  -- the pool once the pass is home in the slot of its number
  abbrev pub with_home : Slots Job → Pass Job → Slots Job
  with_home pool pass = record pool { passes = slice_set pool.passes pass.number (Some pass) }

  -- a pass of this queue that has put nothing
  abbrev pub IsWorkers : TableId → Pass Job → Type 0
  IsWorkers queue pass = (pass.queue ≡ queue) × (pass.put ≡ [])

  -- each is a pass of this queue that has put nothing
  abbrev pub AreWorkers : TableId → List (Pass Job) → Type 0
  AreWorkers queue passes =
      (number : ℕ) (pass : Pass Job) → slice_get passes number ≡ Some pass → IsWorkers queue pass

  -- each is a pass of this queue that has done nothing
  abbrev pub AreIdle : TableId → List (Pass Job) → Type 0
  AreIdle queue passes =
      (number : ℕ) (pass : Pass Job) → slice_get passes number ≡ Some pass
      → IsWorkers queue pass × (pass.claimed ≡ [])

module _ {S Job Reply : Type 0} where
  abbrev pub passes_of : List (Worked S Job Reply) → List (Pass Job)
  passes_of workers = map (λ (worked : Worked S Job Reply). worked.pass) workers

  -- a worker at this queue put nothing, and each ticket that it claimed was answered once, in order
  abbrev pub HasAnswered : TableId → Worked S Job Reply → Type 0
  HasAnswered queue worked =
      IsWorkers queue worked.pass × Pairwise IsAnswered worked.pass.claimed worked.deliveries

  -- each of the workers answered what it claimed
  abbrev pub HaveAnswered : TableId → List (Worked S Job Reply) → Type 0
  HaveAnswered queue workers =
      (number : ℕ) (worked : Worked S Job Reply) → slice_get workers number ≡ Some worked
      → HasAnswered queue worked

-- so many workers came back, with their passes behind those that were there
pub record IsBrought {S Job Reply : Type 0} (queue : TableId) (count : ℕ)
    (before after : List (Pass Job)) (workers : List (Worked S Job Reply)) : Type 0 where
  pub after_is : after ≡ before ++ passes_of workers
  pub count_is : length workers ≡ count
  pub answered : HaveAnswered queue workers

-- how the fields fit together: a slot for each pass, at home only in the slot of its number, the
-- passes that were given to workers, and room for all
pub record IsKept {Job : Type 0} (queue : TableId) (given : List (Pass Job)) (threads_room : ℕ)
    (slots : List (Option (Pass Job))) (all : List (Pass Job)) (all_room : ℕ) : Type 0 where
  pub slots_fit : length slots ≡ PASSES
  pub homes : (number : ℕ) (pass : Pass Job) → slice_get slots number ≡ Some (Some pass)
      → (pass.queue ≡ queue) × (pass.number ≡ number)
  pub given_fit : length given ≤ WORKERS_MAX
  pub given_room : WORKERS_MAX ≤ threads_room
  pub given_are : AreIdle queue given
  pub all_empty : all ≡ []
  pub all_fits : PASSES ≤ all_room

-- so many workers have the first passes, and the others are at home, fresh
pub record IsStarted {Job : Type 0} (workers : ℕ) (pool : Slots Job) : Type 0 where
  pub count : pool.workers ≡ workers
  pub slots_fit : length pool.passes ≡ PASSES
  pub out : AreOut 0 workers pool.passes
  pub homes : (number : ℕ) → workers ≤ number → number < PASSES →
      (pass : Pass Job)
      × (slice_get pool.passes number ≡ Some (Some pass)) × IsFresh pool.queue number pass

-- the tally is of the pool's passes: those that its workers brought back, which put nothing, and
-- those that were at home
pub record IsStopped {Job : Type 0} (pool : Slots Job) (tally : Tally) : Type 0 where
  pub brought : List (Pass Job)
  pub count : length brought ≡ pool.workers
  pub idle : AreWorkers pool.queue brought
  pub tally_is : IsTally (brought ++ at_home pool.passes) tally

-- all workers came back, each of which answered what it claimed, and the tally is of their passes
-- and of those that were at home
pub record IsFinished {S Job Reply : Type 0} (pool : Slots Job)
    (workers : List (Worked S Job Reply)) (tally : Tally) : Type 0 where
  pub count : length workers ≡ pool.workers
  pub answered : HaveAnswered pool.queue workers
  pub tally_is : IsTally (passes_of workers ++ at_home pool.passes) tally
