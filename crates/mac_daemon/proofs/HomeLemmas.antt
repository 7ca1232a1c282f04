-- Passes that go out with desks, and come home.
use Rattle.std.proofs.Common.{◌≡◌, ℕ, zero, suc, ◌+◌, ◌<◌, ◌≤◌, Bool, true, List, [], ◌∷◌, length, map, set, Option, None, Some, slice_get, ◌∙◌, ap, refl, arith}
use Rattle.std.proofs.lemmas.List.{map-set}
use Rattle.mac_queue.specs.Pass.{Pass}
use Rattle.mac_queue.specs.declared.queue.TheConstants.{PASSES}
use Rattle.mac_pool.specs.Pool.{Slots, at_home, IsGiven, IsStarted, with_home}
use Rattle.mac_pool.proofs.Slots.{map_get, set_back}
use Rattle.mac_daemon.specs.Homes.{has_pass, home_places, AreHome}

module _ {Job : Type 0} where
  -- nothing has happened
  pub home_still : (pool : Slots Job) → AreHome pool pool
  home_still pool = record { same_queue = refl; same_workers = refl; same_homes = refl }

  -- as many are at home where the same are
  same_count : (xs ys : List (Option (Pass Job))) → map has_pass xs ≡ map has_pass ys → length (at_home xs) ≡ length (at_home ys)
  same_count [] [] same = refl
  same_count [] (y ∷ ys) same = absurd (cc)
  same_count (x ∷ xs) [] same = absurd (cc)
  same_count (None ∷ xs) (None ∷ ys) same = same_count xs ys (cc)
  same_count (None ∷ xs) (Some y ∷ ys) same = absurd (cc)
  same_count (Some x ∷ xs) (None ∷ ys) same = absurd (cc)
  same_count (Some x ∷ xs) (Some y ∷ ys) same = ap suc (same_count xs ys (cc))

  -- where the first slots are empty and the others full, the empty ones are all that is missing
  first_out : (slots : List (Option (Pass Job))) (few : ℕ)
      → ((n : ℕ) → n < few → slice_get slots n ≡ Some None)
      → ((n : ℕ) → few ≤ n → n < length slots → (pass : Pass Job) × (slice_get slots n ≡ Some (Some pass)))
      → length (at_home slots) + few ≡ length slots
  first_out [] zero out full = refl
  first_out [] (suc few) out full = let at = out 0 (omega arith) in absurd (cc)
  first_out (None ∷ slots) zero out full = let at = (full 0 (omega arith) (omega arith)).1 in absurd (cc)
  first_out (None ∷ slots) (suc few) out full =
      let r = first_out slots few (λ n less. out (suc n) (omega arith)) (λ n least below. full (suc n) (omega arith) (omega arith)) in omega arith
  first_out (Some pass ∷ slots) zero out full =
      let r = first_out slots zero (λ n less. absurd (omega arith)) (λ n least below. full (suc n) (omega arith) (omega arith)) in omega arith
  first_out (Some pass ∷ slots) (suc few) out full = let at = out 0 (omega arith) in absurd (cc)

  -- the passes of a pool are at home, but for those of its workers
  pub all_there : (count : ℕ) (pool pool' : Slots Job) → IsStarted count pool → AreHome pool pool' → length (at_home pool'.passes) + pool'.workers ≡ PASSES
  all_there count pool pool' started home =
      let missing = first_out pool.passes count (λ n less. started.out n (omega arith) less)
      (λ n least below. let there = started.homes n least (omega (arith, started.slots_fit)) in (there.0, there.1)) in
      omega (arith, missing, same_count pool'.passes pool.passes home.same_homes, home.same_workers, started.count, started.slots_fit)

  -- one desk more that went out and came home
  pub home_more : (pool mid mid' pool' : Slots Job) (given back : Pass Job) → IsGiven pool given mid → AreHome mid mid' → back.number ≡ given.number → pool' ≡ with_home mid' back → AreHome pool pool'
  home_more pool mid mid' pool' given back went home same came =
      let n = given.number in
      let here : slice_get (home_places pool) n ≡ Some true = map_get has_pass pool.passes n (Some given) went.was_home in
      let out : home_places mid ≡ set (home_places pool) n (has_pass {Job = Job} None) = ap home_places went.after_is ∙ map-set has_pass pool.passes n None in
      let back_in : home_places pool' ≡ set (home_places mid') n true = ap home_places came ∙ map-set has_pass mid'.passes back.number (Some back) ∙ ap (λ (k : ℕ). set (home_places mid') k true) same in
      record {
        same_queue = ap (λ (p : Slots Job). p.queue) came ∙ home.same_queue ∙ ap (λ (p : Slots Job). p.queue) went.after_is;
        same_workers = ap (λ (p : Slots Job). p.workers) came ∙ home.same_workers ∙ ap (λ (p : Slots Job). p.workers) went.after_is;
        same_homes = back_in ∙ ap (λ (l : List Bool). set l n true) (home.same_homes ∙ out) ∙ set_back (home_places pool) n true (has_pass {Job = Job} None) here;
      }
