-- The books of a pool whose desks are home.
use Rattle.std.proofs.Common.{◌≡◌, ℕ, zero, suc, ◌+◌, ◌<◌, ◌≤◌, ◌⊎◌, ⊎_elim, inl, inr, List, [], ◌∷◌, ◌++◌, length, Some, slice_get, sym, ◌∙◌, ap, refl, subst, arith}
use Rattle.std.specs.List.{sum_by, flat_map}
use Rattle.std.proofs.lemmas.List.Sums.{sum_by-cons, sum_by-append}
use Rattle.atomic_table.specs.Seated.{TableId}
use Rattle.mac_queue.specs.Mail.{Mail}
use Rattle.mac_queue.specs.Pass.{Pass, IsFresh, all_put, all_claimed}
use Rattle.mac_queue.specs.Putting.{pass_of}
use Rattle.mac_queue.specs.declared.queue.TheConstants.{PASSES}
use Rattle.mac_queue.specs.declared.queue.tally.Tally.{Tally}
use Rattle.mac_queue.proofs.Totals.{ones, total_map}
use Rattle.mac_pool.specs.declared.work.Worked.{Worked}
use Rattle.mac_pool.specs.Pool.{Slots, at_home, IsStarted, IsFinished, passes_of}
use Rattle.mac_pool.specs.declared.pool.TheConstants.{WORKERS_MAX}
use Rattle.mac_pool.proofs.Slots.{home_slot, get_below}
use Rattle.mac_wire.specs.declared.reply.Reply.{Reply}
use Rattle.mac_decide.specs.declared.job.Job.{Job}
use Rattle.mac_decide.specs.declared.macaroons.Macaroons.{Macaroons}
use Rattle.mac_serve.specs.declared.caller.Caller.{Caller}
use Rattle.mac_serve.specs.Caller.{Devices, Stay}
use Rattle.mac_serve.specs.Seating.{IsSamePool, ComesHome, IsSeated}
use Rattle.mac_serve.specs.Whole.{BeginsFresh, IsWhole, put_in, claimed_by}
use Rattle.mac_serve.proofs.Homes.{all_nothing, first_missing}

less_or_least : (n few : ℕ) → (n < few) ⊎ (few ≤ n)
less_or_least n zero = inr (omega arith)
less_or_least zero (suc few) = inl (omega arith)
less_or_least (suc n) (suc few) = ⊎_elim (λ (less : n < few). inl (omega arith)) (λ (least : few ≤ n). inr (omega arith)) (less_or_least n few)

-- the weight of lists put together
flat_weight : {X A : Type 0} (weight : A → ℕ) (f : X → List A) (xs : List X) → sum_by weight (flat_map f xs) ≡ sum_by (λ x. sum_by weight (f x)) xs
flat_weight weight f [] = refl
flat_weight {X} weight f (x ∷ xs) = omega (arith, sum_by-append weight (f x) (flat_map f xs), sum_by-cons {X = X} (λ y. sum_by weight (f y)) x xs, flat_weight weight f xs)

-- all passes of a pool are at home, but for those of its workers
pub all_there : (count : ℕ) (pool pool' : Slots Job) → IsStarted count pool → count ≤ WORKERS_MAX → IsSamePool pool pool' → length (at_home pool'.passes) + pool'.workers ≡ PASSES
all_there count pool pool' started few same =
    let eighty : PASSES ≡ 80 = refl in
    let most : WORKERS_MAX ≡ 16 = refl in
    let fit = started.slots_fit in
    let missing = first_missing pool.passes count (omega arith) (λ n less. started.out n (omega arith) less)
    (λ n least below. let home = started.homes n least (omega arith) in (home.0, home.1)) in
    omega (arith, same.same_count, same.same_workers, started.count)

module _ (count : ℕ) (pool pool' : Slots Job) (stays : List Stay) (started : IsStarted count pool) (same : IsSamePool pool pool') (home : ComesHome pool pool' stays) where
  -- who is at home at first has done nothing
  fresh_home : (n : ℕ) (pass : Pass Job) → slice_get pool.passes n ≡ Some (Some pass) → IsFresh pool.queue n pass
  fresh_home n pass at = ⊎_elim
      (λ (less : n < count). let out = started.out n (omega arith) less in absurd (cc))
      (λ (least : count ≤ n).
      let below = get_below pool.passes n (Some pass) at in
      let found = started.homes n least (omega (arith, started.slots_fit)) in
      let is = found.1 in
      let e : found.0 ≡ pass = cc in
      subst (λ (p : Pass Job). IsFresh pool.queue n p) e found.2)
      (less_or_least n count)

  given_fresh : (n : ℕ) (stay : Stay) → slice_get stays n ≡ Some stay → IsFresh pool.queue stay.given.putter.number (pass_of stay.given.putter)
  given_fresh n stay at = fresh_home stay.given.putter.number (pass_of stay.given.putter) (home.from n stay at).was_home

  begins : (n : ℕ) (stay : Stay) → slice_get stays n ≡ Some stay → BeginsFresh pool'.queue stay
  begins n stay at = record {
    pass_is = subst (λ (q : TableId). IsFresh q stay.given.putter.number (pass_of stay.given.putter)) (sym same.same_queue) (given_fresh n stay at);
    none_taken = (home.from n stay at).none_taken;
  }

  -- what those at home weigh in the end is what the stays brought
  module _ (weight : Pass Job → ℕ) (nothing : (pass : Pass Job) → pass.put ≡ [] → pass.claimed ≡ [] → weight pass ≡ 0) where
    at_first : sum_by weight (at_home pool.passes) ≡ 0
    at_first = all_nothing weight (at_home pool.passes) (λ n pass at.
        let slot = home_slot pool.passes n pass at in
        let fresh = fresh_home slot.0 pass slot.1 in
        nothing pass fresh.put_is fresh.claimed_is)

    when_given : sum_by (λ (stay : Stay). weight (pass_of stay.given.putter)) stays ≡ 0
    when_given = all_nothing (λ (stay : Stay). weight (pass_of stay.given.putter)) stays (λ n stay at.
        let fresh = given_fresh n stay at in
        nothing (pass_of stay.given.putter) fresh.put_is fresh.claimed_is)

    brought : sum_by weight (at_home pool'.passes) ≡ sum_by (λ (stay : Stay). weight (pass_of stay.back.putter)) stays
    brought = omega (arith, at_first, when_given, home.weights weight)

  module _ (workers : List (Worked Macaroons Job Reply)) (tally : Tally) (finished : IsFinished pool' workers tally) where
    workers_put : (weight : Mail × (ℕ × Job) → ℕ) → sum_by (λ (p : Pass Job). sum_by weight p.put) (passes_of workers) ≡ 0
    workers_put weight =
        total_map (λ (p : Pass Job). sum_by weight p.put) (λ (w : Worked Macaroons Job Reply). w.pass) workers
        ∙ all_nothing (λ (w : Worked Macaroons Job Reply). sum_by weight w.pass.put) workers (λ n w at. ap (sum_by weight) (finished.answered n w at).0.1)

    -- what all put is what was put in the stays
    puts : (weight : Mail × (ℕ × Job) → ℕ) → sum_by weight (all_put (passes_of workers ++ at_home pool'.passes)) ≡ sum_by weight (put_in stays)
    puts weight =
        let one = flat_weight weight (λ (p : Pass Job). p.put) (passes_of workers ++ at_home pool'.passes) in
        let two = sum_by-append (λ (p : Pass Job). sum_by weight p.put) (passes_of workers) (at_home pool'.passes) in
        let three = workers_put weight in
        let four = brought (λ (p : Pass Job). sum_by weight p.put) (λ pass put claimed. ap (sum_by weight) put) in
        let five = flat_weight weight (λ (stay : Stay). stay.back.putter.put) stays in
        omega (arith, one, two, three, four, five)

    -- and what all claimed is what the workers claimed
    claims : (weight : Mail × (ℕ × Job) → ℕ) → sum_by weight (all_claimed (passes_of workers ++ at_home pool'.passes)) ≡ sum_by weight (claimed_by workers)
    claims weight =
        let one = flat_weight weight (λ (p : Pass Job). p.claimed) (passes_of workers ++ at_home pool'.passes) in
        let two = sum_by-append (λ (p : Pass Job). sum_by weight p.claimed) (passes_of workers) (at_home pool'.passes) in
        let three = brought (λ (p : Pass Job). sum_by weight p.claimed) (λ pass put claimed. ap (sum_by weight) claimed) in
        let four = all_nothing (λ (stay : Stay). sum_by weight stay.back.putter.claimed) stays
        (λ n stay at. ap (sum_by weight) ((home.from n stay at).none_claimed ∙ (given_fresh n stay at).claimed_is)) in
        let five = flat_weight weight (λ (p : Pass Job). p.claimed) (passes_of workers) in
        omega (arith, one, two, three, four, five)

    counted_put : tally.put ≡ length (put_in stays)
    counted_put =
        finished.tally_is.put_is ∙ sym (ones (all_put (passes_of workers ++ at_home pool'.passes))) ∙ puts (λ (e : Mail × (ℕ × Job)). 1) ∙ ones (put_in stays)

    counted_claims : tally.claimed ≡ length (claimed_by workers)
    counted_claims =
        finished.tally_is.claimed_is ∙ sym (ones (all_claimed (passes_of workers ++ at_home pool'.passes))) ∙ claims (λ (e : Mail × (ℕ × Job)). 1) ∙ ones (claimed_by workers)

module _ {In Out K : Type 0} (d : Devices In Out K) where
  pub whole_is : (count : ℕ) (before after : List (Caller In Out K)) (pool pool' : Slots Job) (workers : List (Worked Macaroons Job Reply)) (tally : Tally)
      → IsStarted count pool → IsSamePool pool pool' → IsSeated d 0 before after pool pool' → IsFinished pool' workers tally → IsWhole d count before after workers tally
  whole_is count before after pool pool' workers tally started same seated finished = record {
    queue = pool'.queue;
    count_is = finished.count ∙ same.same_workers ∙ started.count;
    answered = finished.answered;
    stays = seated.stays;
    one_each = let each = seated.one_each in omega arith;
    none_lost = seated.none_lost;
    fresh = begins count pool pool' seated.stays started same seated.home;
    attended = λ number b a stay at_b at_a at_stay.
        let from_none : number ≡ 0 + number = omega arith in
        seated.late number b a stay (subst (λ (m : ℕ). slice_get before m ≡ Some b) from_none at_b) (subst (λ (m : ℕ). slice_get after m ≡ Some a) from_none at_a) at_stay;
    left = finished.tally_is.left;
    books = λ weight.
        sym (puts count pool pool' seated.stays started same seated.home workers tally finished weight)
        ∙ finished.tally_is.each weight
        ∙ ap (λ n. n + sum_by weight finished.tally_is.left) (claims count pool pool' seated.stays started same seated.home workers tally finished weight);
    put_is = counted_put count pool pool' seated.stays started same seated.home workers tally finished;
    claimed_is = counted_claims count pool pool' seated.stays started same seated.home workers tally finished;
    left_is = finished.tally_is.left_is;
  }
