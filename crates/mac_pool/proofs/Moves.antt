-- What a pool is once a pass goes out, a worker starts or the workers came back.
use Rattle.std.proofs.Common.{◌≡◌, ℕ, ◌+◌, ◌≤◌, ◌<◌, List, ◌∷◌, ◌++◌, [], length, length-set, map, set, Option, None, Some, slice_get, sym, ◌∙◌, ap, refl, subst, arith, append_assoc, All}
use Rattle.std.proofs.lemmas.List.{length-map}
use Rattle.atomic_table.specs.Seated.{TableId}
use Rattle.mac_queue.specs.Pass.{Pass}
use Rattle.mac_queue.specs.declared.queue.tally.Tally.{Tally}
use Rattle.mac_pool.specs.Parcel.{Pairwise, IsAnswered}
use Rattle.mac_pool.specs.Working.{HasWorked}
use Rattle.mac_pool.specs.declared.work.Worked.{Worked}
use Rattle.mac_pool.specs.Pool.{Slots, at_home, IsGiven, IsStarted, IsStopped, IsFinished, AreWorkers, AreIdle, HasAnswered, HaveAnswered, passes_of, with_home}
use Rattle.mac_queue.specs.declared.queue.TheConstants.{PASSES}
use Rattle.mac_pool.proofs.Slots.{get_map, get_set_other, out_more, all_of_queue, map_push, set_back}

module _ {Job : Type 0} where
  abbrev pub slots : TableId → ℕ → List (Option (Pass Job)) → Slots Job
  slots queue workers passes = record { queue = queue; workers = workers; passes = passes }

  abbrev pub AreKept : TableId → List (Option (Pass Job)) → Type 0
  AreKept queue passes = (n : ℕ) (pass : Pass Job) → slice_get passes n ≡ Some (Some pass) → (pass.queue ≡ queue) × (pass.number ≡ n)

  pub given_is : (queue : TableId) (workers n : ℕ) (before after : List (Option (Pass Job))) (pass : Pass Job) → pass.queue ≡ queue → pass.number ≡ n → slice_get before n ≡ Some (Some pass) → after ≡ set before n None
      → IsGiven (slots queue workers before) pass (slots queue workers after)
  given_is queue workers n before after pass mine number was is = record {
    queue_is = mine;
    was_home = subst (λ (m : ℕ). slice_get before m ≡ Some (Some pass)) (sym number) was;
    after_is = ap (λ (l : List (Option (Pass Job))). slots queue workers l) (is ∙ ap (λ (m : ℕ). set before m None) (sym number));
  }

  -- a pool whose pass went out and came home is as it was
  pub back_home : (before given after : Slots Job) (pass : Pass Job) → IsGiven before pass given → after ≡ with_home given pass → after ≡ before
  back_home before given after pass went came =
      came ∙ ap (λ (pool : Slots Job). with_home pool pass) went.after_is
      ∙ ap (λ (l : List (Option (Pass Job))). slots before.queue before.workers l) (set_back before.passes pass.number (Some pass) None went.was_home)

  -- passes that have done nothing under another name of their queue
  pub idle_at : (one other : TableId) (passes : List (Pass Job)) → one ≡ other → AreIdle other passes → AreIdle one passes
  idle_at one other passes same were = subst (λ (z : TableId). AreIdle z passes) (sym same) were

  -- all that is brought back and all that is at home is of the queue, under each of its names
  pub all_of_queues : (queue one other : TableId) (brought all : List (Pass Job)) (passes : List (Option (Pass Job))) → one ≡ queue → other ≡ queue → all ≡ brought ++ at_home passes → AreWorkers one brought → AreKept queue passes
      → All (λ (pass : Pass Job). pass.queue ≡ other) all
  all_of_queues queue one other brought all passes one_is other_is all_is idle kept =
      subst (λ (l : List (Pass Job)). All (λ (pass : Pass Job). pass.queue ≡ other) l) (sym all_is)
      (subst (λ (z : TableId). All (λ (pass : Pass Job). pass.queue ≡ z) (brought ++ at_home passes)) (sym other_is)
      (all_of_queue queue brought passes (subst (λ (z : TableId). AreWorkers z brought) one_is idle) kept))

  started_next : (queue : TableId) (n : ℕ) (passes : List (Option (Pass Job))) → n < PASSES → IsStarted n (slots queue n passes) → IsStarted (n + 1) (slots queue (n + 1) (set passes n None))
  started_next queue n passes below was =
      let fit : length passes ≡ PASSES = was.slots_fit in
      record {
        count = refl;
        slots_fit = length-set passes n None ∙ fit;
        out = out_more passes n (omega arith) was.out;
        homes = λ number from under.
            let home = was.homes number (omega arith) under in
            (home.0, get_set_other passes n number None (λ e. absurd (omega arith)) ∙ home.1, home.2);
      }

  -- one worker more
  pub started_more : (queue : TableId) (workers n m : ℕ) (before after : List (Option (Pass Job))) → n < PASSES → IsStarted workers (slots queue n before) → m ≡ n + 1 → after ≡ set before n None → IsStarted (workers + 1) (slots queue m after)
  started_more queue workers n m before after below was m_is after_is =
      let next = started_next queue n before below (subst (λ (w : ℕ). IsStarted w (slots queue n before)) (sym was.count) was) in
      let named : IsStarted (workers + 1) (slots queue (n + 1) (set before n None)) = subst (λ (w : ℕ). IsStarted (w + 1) (slots queue (n + 1) (set before n None))) was.count next in
      subst (λ (k : ℕ). IsStarted (workers + 1) (slots queue k after)) (sym m_is)
      (subst (λ (l : List (Option (Pass Job))). IsStarted (workers + 1) (slots queue (n + 1) l)) (sym after_is) named)

  -- who is at home where the next worker's pass is has done nothing
  pub next_idle : (pool : Slots Job) (workers number : ℕ) (pass : Pass Job) → IsStarted workers pool → workers ≤ number → number < PASSES → slice_get pool.passes number ≡ Some (Some pass) → (pass.put ≡ []) × (pass.claimed ≡ [])
  next_idle pool workers number pass started from below at =
      let home = started.homes number from below in
      let same : home.0 ≡ pass = cc (home.1, at) in
      (sym (ap (λ (p : Pass Job). p.put) same) ∙ home.2.put_is, sym (ap (λ (p : Pass Job). p.claimed) same) ∙ home.2.claimed_is)

pub map_grown : {A B : Type 0} (f : A → B) (old new : List A) (y : A) (z : B) → new ≡ old ++ y ∷ [] → f y ≡ z → map f new ≡ map f old ++ z ∷ []
map_grown f old new y z is image = ap (λ l. map f l) is ∙ map_push f old y ∙ ap (λ b. map f old ++ b ∷ []) image

module _ {S Job Reply : Type 0} where
  -- what a worker claimed that began with a pass that had done nothing is all that its pass claimed
  pub worked_is : (queue : TableId) (given : Pass Job) (worked : Worked S Job Reply) → (given.queue ≡ queue) × (given.put ≡ []) → given.claimed ≡ []
      → HasWorked given worked.claimed worked.pass worked.deliveries → HasAnswered queue worked
  worked_is queue given worked was none has =
      let claims = has.claims in
      let all : worked.pass.claimed ≡ claims.more = claims.claimed ∙ ap (λ l. l ++ claims.more) none in (
        (claims.same.0 ∙ was.0, claims.put ∙ was.1),
        subst (λ l. Pairwise IsAnswered l worked.deliveries) (sym all) has.answered,
      )

  -- one worker more came back
  pub came_more : (before all more : List (Pass Job)) (came came' : List (Worked S Job Reply)) (back : Worked S Job Reply) → more ≡ all ++ back.pass ∷ [] → all ≡ before ++ passes_of came → came' ≡ came ++ back ∷ []
      → more ≡ before ++ passes_of came'
  came_more before all more came came' back is was next =
      let pushed : passes_of came' ≡ passes_of came ++ back.pass ∷ [] = ap passes_of next ∙ map_push (λ (w : Worked S Job Reply). w.pass) came back in
      is ∙ ap (λ (l : List (Pass Job)). l ++ back.pass ∷ []) was ∙ append_assoc before (passes_of came) (back.pass ∷ [])
      ∙ ap (λ (l : List (Pass Job)). before ++ l) (sym pushed)

  -- the passes of workers put nothing
  pub workers_idle : (queue : TableId) (workers : List (Worked S Job Reply)) → HaveAnswered queue workers → AreWorkers queue (passes_of workers)
  workers_idle queue workers all n pass at =
      let found = get_map (λ (w : Worked S Job Reply). w.pass) workers n pass at in
      let one = all n found.0 found.1 in (
        sym (ap (λ (p : Pass Job). p.queue) found.2) ∙ one.0.0,
        sym (ap (λ (p : Pass Job). p.put) found.2) ∙ one.0.1,
      )

  -- what a pool that is finished tells is what one tells that is stopped
  pub stopped_is : (pool : Slots Job) (workers : List (Worked S Job Reply)) (tally : Tally) → IsFinished pool workers tally → IsStopped pool tally
  stopped_is pool workers tally end = record {
    brought = passes_of workers;
    count = length-map workers (λ (w : Worked S Job Reply). w.pass) ∙ end.count;
    idle = workers_idle pool.queue workers end.answered;
    tally_is = end.tally_is;
  }
