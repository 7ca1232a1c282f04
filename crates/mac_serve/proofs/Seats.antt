-- One desk more that goes to a connection, and comes home.
use Rattle.std.proofs.Common.{◌≡◌, ◌≢◌, ℕ, zero, suc, ◌+◌, ◌<◌, ◌⊎◌, ⊎_elim, List, [], ◌∷◌, length, length-set, set, Option, None, Some, slice_get, get_or, inl, inr, sym, ◌∙◌, ap, refl, subst, arith}
use Rattle.std.specs.List.{sum_by}
use Rattle.std.proofs.lemmas.List.Sums.{sum_by-cons}
use Rattle.std.proofs.lemmas.Option.{slice_get-get_or}
use Rattle.mac_queue.proofs.Totals.{ones}
use Rattle.mac_decide.specs.declared.job.Job.{Job}
use Rattle.mac_decide.specs.declared.macaroons.Macaroons.{Macaroons}
use Rattle.mac_wire.specs.declared.reply.Reply.{Reply}
use Rattle.mac_queue.specs.Taking.{Taking, fresh_taking}
use Rattle.mac_queue.specs.Desk.{IsSameDesk}
use Rattle.mac_queue.specs.Pass.{Pass, IsSamePass}
use Rattle.mac_queue.specs.Putting.{Putting, pass_of}
use Rattle.mac_queue.specs.declared.desk.Desk.{Desk}
use Rattle.mac_pool.specs.Pool.{Slots, at_home, IsGiven, with_home}
use Rattle.mac_pool.proofs.Slots.{get_set, get_set_here, get_set_other, get_below}
use Rattle.mac_serve.specs.declared.caller.Caller.{Caller}
use Rattle.mac_serve.specs.Caller.{Devices, Stay, IsAttended, IsAttendedThere, HaveDesks, AttendsEach}
use Rattle.mac_serve.specs.Seating.{IsFrom, ComesHome, IsSeated, IsSamePool, KeepDesks, AreUntouched}
use Rattle.mac_serve.proofs.Homes.{went_out, came_home}

-- a number that differs by what stands there
apart : {A : Type 0} (xs : List (Option A)) (k n : ℕ) (x : A) → slice_get xs n ≡ Some (Some x) → slice_get xs k ≡ Some None → k ≢ n
apart {A} xs k n x full none same = let e : slice_get xs n ≡ Some None = subst (λ (m : ℕ). slice_get xs m ≡ Some None) same none in absurd (cc)

module _ (pool mid mid' pool' : Slots Job) (given back : Pass Job) (went : IsGiven pool given mid) (same : IsSamePass given back) (came : pool' ≡ with_home mid' back) where
  mid_passes : mid.passes ≡ set pool.passes given.number None
  mid_passes = ap (λ (p : Slots Job). p.passes) went.after_is

  mid_queue : mid.queue ≡ pool.queue
  mid_queue = ap (λ (p : Slots Job). p.queue) went.after_is

  mid_workers : mid.workers ≡ pool.workers
  mid_workers = ap (λ (p : Slots Job). p.workers) went.after_is

  pool_passes : pool'.passes ≡ set mid'.passes given.number (Some back)
  pool_passes = ap (λ (p : Slots Job). p.passes) came ∙ ap (λ (n : ℕ). set mid'.passes n (Some back)) same.2

  is_out : slice_get mid.passes given.number ≡ Some None
  is_out = ap (λ (l : List (Option (Pass Job))). slice_get l given.number) mid_passes ∙ get_set_here pool.passes given.number None (get_below pool.passes given.number (Some given) went.was_home)

  mid_other : (k : ℕ) → k ≢ given.number → slice_get mid.passes k ≡ slice_get pool.passes k
  mid_other k other = ap (λ (l : List (Option (Pass Job))). slice_get l k) mid_passes ∙ get_set_other pool.passes given.number k None other

  mid_weight : (weight : Pass Job → ℕ) → sum_by weight (at_home mid.passes) + weight given ≡ sum_by weight (at_home pool.passes)
  mid_weight weight = ap (λ (l : List (Option (Pass Job))). sum_by weight (at_home l) + weight given) mid_passes ∙ went_out weight pool.passes given.number given went.was_home

  pool_weight : (weight : Pass Job → ℕ) → slice_get mid'.passes given.number ≡ Some None → sum_by weight (at_home pool'.passes) ≡ sum_by weight (at_home mid'.passes) + weight back
  pool_weight weight out = ap (λ (l : List (Option (Pass Job))). sum_by weight (at_home l)) pool_passes ∙ came_home weight mid'.passes given.number back out

  -- passes that were out before it went are out once it is home
  still_out : ((k : ℕ) → slice_get mid.passes k ≡ Some None → slice_get mid'.passes k ≡ Some None) → (number : ℕ) → slice_get pool.passes number ≡ Some None → slice_get pool'.passes number ≡ Some None
  still_out outs number out =
      let other = apart pool.passes number given.number given went.was_home out in
      ap (λ (l : List (Option (Pass Job))). slice_get l number) pool_passes
      ∙ get_set_other mid'.passes given.number number (Some back) other
      ∙ outs number (mid_other number other ∙ out)

  -- one desk more that went and came home
  pub pool_more : IsSamePool mid mid' → IsSamePool pool pool'
  pool_more rest =
      let left = mid_weight (λ (p : Pass Job). 1) in
      let home = pool_weight (λ (p : Pass Job). 1) (rest.out given.number is_out) in
      record {
        same_queue = ap (λ (p : Slots Job). p.queue) came ∙ rest.same_queue ∙ mid_queue;
        same_workers = ap (λ (p : Slots Job). p.workers) came ∙ rest.same_workers ∙ mid_workers;
        same_count = let between = rest.same_count in omega (arith, ones (at_home pool.passes), ones (at_home pool'.passes), ones (at_home mid.passes), ones (at_home mid'.passes));
        out = still_out rest.out;
      }

  -- where a desk that came home is at home
  pub queue_there : IsSamePool mid mid' → back.queue ≡ mid'.queue
  queue_there rest = same.0 ∙ went.queue_is ∙ sym mid_queue ∙ sym rest.same_queue

-- one stay more
module _ (pool mid mid' pool' : Slots Job) (stay : Stay) (stays : List Stay) (went : IsGiven pool (pass_of stay.given.putter) mid) (same : IsSamePass (pass_of stay.given.putter) (pass_of stay.back.putter)) (came : pool' ≡ with_home mid' (pass_of stay.back.putter))
    (none : stay.given.taker ≡ fresh_taking stay.given.putter.mail) (quiet : stay.back.putter.claimed ≡ stay.given.putter.claimed) (outs : IsSamePool mid mid') (rest : ComesHome mid mid' stays) where
  from_pool : (number : ℕ) (s : Stay) → slice_get (stay ∷ stays) number ≡ Some s → IsFrom pool s
  from_pool zero s at =
      let first : stay ≡ s = cc in
      subst (λ (s : Stay). IsFrom pool s) first (record { queue_is = went.queue_is; was_home = went.was_home; none_taken = none; none_claimed = quiet })
  from_pool (suc number) s at =
      let r = rest.from number s at in
      let n = stay.given.putter.number in
      record {
        queue_is = r.queue_is ∙ mid_queue pool mid mid' pool' (pass_of stay.given.putter) (pass_of stay.back.putter) went same came;
        was_home = ⊎_elim
            (λ (here : (s.given.putter.number ≡ n) × (None ≡ Some (pass_of s.given.putter))). absurd (cc (here.1)))
            (λ (there : slice_get pool.passes s.given.putter.number ≡ Some (Some (pass_of s.given.putter))). there)
            (get_set pool.passes n s.given.putter.number None (Some (pass_of s.given.putter)) (sym (ap (λ (l : List (Option (Pass Job))). slice_get l s.given.putter.number) (mid_passes pool mid mid' pool' (pass_of stay.given.putter) (pass_of stay.back.putter) went same came)) ∙ r.was_home));
        none_taken = r.none_taken;
        none_claimed = r.none_claimed;
      }

  all_weights : (weight : Pass Job → ℕ) → sum_by weight (at_home pool'.passes) + sum_by (λ (s : Stay). weight (pass_of s.given.putter)) (stay ∷ stays) ≡ sum_by weight (at_home pool.passes) + sum_by (λ (s : Stay). weight (pass_of s.back.putter)) (stay ∷ stays)
  all_weights weight =
      let out = outs.out stay.given.putter.number (is_out pool mid mid' pool' (pass_of stay.given.putter) (pass_of stay.back.putter) went same came) in
      let left = mid_weight pool mid mid' pool' (pass_of stay.given.putter) (pass_of stay.back.putter) went same came weight in
      let home = pool_weight pool mid mid' pool' (pass_of stay.given.putter) (pass_of stay.back.putter) went same came weight out in
      let between = rest.weights weight in
      omega (arith, sum_by-cons (λ (s : Stay). weight (pass_of s.given.putter)) stay stays, sum_by-cons (λ (s : Stay). weight (pass_of s.back.putter)) stay stays)

  pub home_more : ComesHome pool pool' (stay ∷ stays)
  home_more = record { from = from_pool; weights = all_weights }

-- below the next number is that number or one below it
last_or_less : (number next : ℕ) → number < next + 1 → (number ≡ next) ⊎ (number < next)
last_or_less zero zero less = inl refl
last_or_less zero (suc next) less = inr (omega arith)
last_or_less (suc number) zero less = absurd (omega arith)
last_or_less (suc number) (suc next) less =
    ⊎_elim (λ (same : number ≡ next). inl (ap suc same)) (λ (below : number < next). inr (omega arith)) (last_or_less number next (omega arith))

same_or_other : (number next : ℕ) → (number ≡ next) ⊎ (number ≢ next)
same_or_other zero zero = inl refl
same_or_other zero (suc next) = inr (λ e. absurd (omega arith))
same_or_other (suc number) zero = inr (λ e. absurd (omega arith))
same_or_other (suc number) (suc next) =
    ⊎_elim (λ (same : number ≡ next). inl (ap suc same)) (λ (other : number ≢ next). inr (λ e. other (omega arith))) (same_or_other number next)

module _ {In Out K : Type 0} where
  -- a caller with a desk, and without one
  abbrev pub at_desk : Caller In Out K → Desk Macaroons Job Reply → Caller In Out K
  at_desk caller desk = record caller { desk = Some desk }

  abbrev pub risen : Caller In Out K → Caller In Out K
  risen caller = record caller { desk = None }

  -- one more has a desk
  pub sits : (callers : List (Caller In Out K)) (next : ℕ) (was : Caller In Out K) (desk : Desk Macaroons Job Reply) → next < length callers → HaveDesks next callers → HaveDesks (next + 1) (set callers next (at_desk was desk))
  sits callers next was desk below have number caller less at = ⊎_elim
      (λ (same : number ≡ next).
      let e : slice_get (set callers next (at_desk was desk)) next ≡ Some caller = subst (λ (m : ℕ). slice_get (set callers next (at_desk was desk)) m ≡ Some caller) same at in
      let there = get_set_here callers next (at_desk was desk) below in
      let f : at_desk was desk ≡ caller = cc in
      (desk, ap (λ (x : Caller In Out K). x.desk) (sym f)))
      (λ (under : number < next). have number caller under (sym (get_set_other callers next number (at_desk was desk) (λ e. absurd (omega arith))) ∙ at))
      (last_or_less number next less)

  -- and still has it
  pub kept_there : (callers after : List (Caller In Out K)) (next : ℕ) (was default : Caller In Out K) (given back : Desk Macaroons Job Reply) → next < length callers → KeepDesks (next + 1) (set callers next (at_desk was given)) after
      → (desk : Desk Macaroons Job Reply) × ((get_or after next default).desk ≡ Some desk) × IsSameDesk given desk
  kept_there callers after next was default given back below kept =
      let few : next < length after = omega (arith, kept.none_lost, length-set callers next (at_desk was given)) in
      kept.each next (at_desk was given) (get_or after next default) (omega arith) (get_set_here callers next (at_desk was given) below) (slice_get-get_or after next default few) given refl

  pub same_there : (callers after : List (Caller In Out K)) (next : ℕ) (was default : Caller In Out K) (given back : Desk Macaroons Job Reply) → next < length callers → KeepDesks (next + 1) (set callers next (at_desk was given)) after
      → (get_or after next default).desk ≡ Some back → IsSameDesk given back
  same_there callers after next was default given back below kept is =
      let there = kept_there callers after next was default given back below kept in
      let found = there.1 in
      let e : there.0 ≡ back = cc in
      subst (λ (desk : Desk Macaroons Job Reply). IsSameDesk given desk) e there.2

  -- nobody lost a desk where nothing was done
  pub keep_all : (next : ℕ) (callers : List (Caller In Out K)) → KeepDesks next callers callers
  keep_all next callers = record {
    none_lost = refl;
    each = λ number b a less was is given at. let e : b ≡ a = cc in (given, ap (λ (x : Caller In Out K). x.desk) (sym e) ∙ at, ((refl, refl, refl), refl, refl));
  }

  -- nor where one more rose
  pub keep_more : (callers after : List (Caller In Out K)) (next : ℕ) (sat left : Caller In Out K) → KeepDesks (next + 1) (set callers next sat) after → KeepDesks next callers (set after next left)
  keep_more callers after next sat left kept = record {
    none_lost = length-set after next left ∙ kept.none_lost ∙ length-set callers next sat;
    each = λ number b a less was is. kept.each number b a (omega arith)
        (get_set_other callers next number sat (λ e. absurd (omega arith)) ∙ was)
        (sym (get_set_other after next number left (λ e. absurd (omega arith))) ∙ is);
  }

module _ {In Out K : Type 0} where
  -- nothing was done
  pub untouched_all : (callers : List (Caller In Out K)) → AreUntouched callers callers
  untouched_all callers = record {
    none_lost = refl;
    each = λ number b a was is. let e : b ≡ a = cc in subst (λ (x : Caller In Out K). x ≡ record b { desk = x.desk }) e refl;
  }

  -- a desk went to one more and came back
  pub untouched_more : (callers after : List (Caller In Out K)) (next : ℕ) (was default left : Caller In Out K) (given : Desk Macaroons Job Reply) → next < length callers → slice_get callers next ≡ Some was → left ≡ risen (get_or after next default)
      → AreUntouched (set callers next (at_desk was given)) after → AreUntouched callers (set after next left)
  untouched_more callers after next was default left given below was_is left_is rest =
      let few : next < length after = omega (arith, rest.none_lost, length-set callers next (at_desk was given)) in
      let at_next : get_or after next default ≡ record (at_desk was given) { desk = (get_or after next default).desk } =
      rest.each next (at_desk was given) (get_or after next default) (get_set_here callers next (at_desk was given) below) (slice_get-get_or after next default few) in
      let left_was : left ≡ risen was = left_is ∙ ap (λ (x : Caller In Out K). risen x) at_next in
      record {
        none_lost = length-set after next left ∙ rest.none_lost ∙ length-set callers next (at_desk was given);
        each = λ number b a at_b at_a. ⊎_elim
            (λ (same : number ≡ next).
            let b_is : slice_get callers next ≡ Some b = subst (λ (m : ℕ). slice_get callers m ≡ Some b) same at_b in
            let a_is : slice_get (set after next left) next ≡ Some a = subst (λ (m : ℕ). slice_get (set after next left) m ≡ Some a) same at_a in
            let here = get_set_here after next left few in
            let e : was ≡ b = cc in
            let f : left ≡ a = cc in
            subst (λ (x : Caller In Out K). x ≡ record b { desk = x.desk }) (sym left_was ∙ f)
            (subst (λ (y : Caller In Out K). risen was ≡ record y { desk = None }) e refl))
            (λ (other : number ≢ next). rest.each number b a (get_set_other callers next number (at_desk was given) other ∙ at_b) (sym (get_set_other after next number left other) ∙ at_a))
            (same_or_other number next);
      }

module _ {In Out K : Type 0} (d : Devices In Out K) where
  -- all were attended where they sit
  pub attended_keep : (next : ℕ) (callers after : List (Caller In Out K)) → AttendsEach d callers after → KeepDesks next callers after
  attended_keep next callers after all = record {
    none_lost = all.none_lost;
    each = λ number b a less was is given at.
        let there = all.each number b a was is in
        let found = there.given_is in
        let e : there.stay.given ≡ given = cc in
        let served = there.attended.served in
        let same : IsSameDesk there.stay.given there.stay.back = (served.same_putter.0, served.same_putter.1, ap (λ (t : Taking Job). t.mail) served.taken_is) in
        (there.stay.back, there.back_is, subst (λ (desk : Desk Macaroons Job Reply). IsSameDesk desk there.stay.back) e same);
  }

  pub attended_all : (next : ℕ) (callers after : List (Caller In Out K)) (pool : Slots Job) → next ≡ length callers → AttendsEach d callers after → IsSeated d next callers after pool pool
  attended_all next callers after pool last all = record {
    none_lost = all.none_lost;
    early = λ number b a less was is. all.each number b a was is;
    stays = [];
    one_each = omega arith;
    late = λ number b a stay was is none. absurd (cc);
    home = record { from = λ number stay none. absurd (cc); weights = λ weight. refl };
  }

  -- what is said of a connection that was attended says nothing of its desk
  moved : (b a : Caller In Out K) (desk : Desk Macaroons Job Reply) (stay : Stay) → IsAttended d (at_desk b desk) a stay → IsAttended d b (risen a) stay
  moved b a desk stay was = record { told = was.told; told_is = was.told_is; session = was.session; stands = was.stands; served = was.served }

  module _ (next : ℕ) (callers after : List (Caller In Out K)) (was default left : Caller In Out K) (given back : Desk Macaroons Job Reply) (pool mid mid' pool' : Slots Job)
      (below : next < length callers) (was_is : slice_get callers next ≡ Some was) (back_is : (get_or after next default).desk ≡ Some back) (left_is : left ≡ risen (get_or after next default))
      (went : IsGiven pool (pass_of given.putter) mid) (none : given.taker ≡ fresh_taking given.putter.mail) (came : pool' ≡ with_home mid' (pass_of back.putter)) (outs : IsSamePool mid mid')
      (rest : IsSeated d (next + 1) (set callers next (at_desk was given)) after mid mid') where
    few : next < length after
    few = omega (arith, rest.none_lost, length-set callers next (at_desk was given))

    there : IsAttendedThere d (at_desk was given) (get_or after next default)
    there = rest.early next (at_desk was given) (get_or after next default) (omega arith) (get_set_here callers next (at_desk was given) below) (slice_get-get_or after next default few)

    given_same : given ≡ there.stay.given
    given_same = let e = there.given_is in cc

    back_same : back ≡ there.stay.back
    back_same = let e = there.back_is in cc

    attended : IsAttended d was left there.stay
    attended = subst (λ (x : Caller In Out K). IsAttended d was x there.stay) (sym left_is) (moved was (get_or after next default) given there.stay there.attended)

    late_more : (number : ℕ) (b a : Caller In Out K) (stay : Stay) → slice_get callers (next + number) ≡ Some b → slice_get (set after next left) (next + number) ≡ Some a → slice_get (there.stay ∷ rest.stays) number ≡ Some stay → IsAttended d b a stay
    late_more zero b a stay at_b at_a at_stay =
        let same : next + 0 ≡ next = omega arith in
        let b_is : slice_get callers next ≡ Some b = subst (λ (m : ℕ). slice_get callers m ≡ Some b) same at_b in
        let a_is : slice_get (set after next left) next ≡ Some a = subst (λ (m : ℕ). slice_get (set after next left) m ≡ Some a) same at_a in
        let here = get_set_here after next left few in
        let e : was ≡ b = cc in
        let f : left ≡ a = cc in
        let h : there.stay ≡ stay = cc in
        subst (λ (s : Stay). IsAttended d b a s) h
        (subst (λ (x : Caller In Out K). IsAttended d b x there.stay) f
        (subst (λ (x : Caller In Out K). IsAttended d x left there.stay) e attended))
    late_more (suc number) b a stay at_b at_a at_stay =
        let same : next + suc number ≡ (next + 1) + number = omega arith in
        let b_is : slice_get callers ((next + 1) + number) ≡ Some b = subst (λ (m : ℕ). slice_get callers m ≡ Some b) same at_b in
        let a_is : slice_get (set after next left) ((next + 1) + number) ≡ Some a = subst (λ (m : ℕ). slice_get (set after next left) m ≡ Some a) same at_a in
        rest.late number b a stay
        (get_set_other callers next ((next + 1) + number) (at_desk was given) (λ e. absurd (omega arith)) ∙ b_is)
        (sym (get_set_other after next ((next + 1) + number) left (λ e. absurd (omega arith))) ∙ a_is)
        at_stay

    -- one more was seated, and rose
    pub seated_more : IsSeated d next callers (set after next left) pool pool'
    seated_more = record {
      none_lost = length-set after next left ∙ rest.none_lost ∙ length-set callers next (at_desk was given);
      early = λ number b a less at_b at_a. rest.early number b a (omega arith)
          (get_set_other callers next number (at_desk was given) (λ e. absurd (omega arith)) ∙ at_b)
          (sym (get_set_other after next number left (λ e. absurd (omega arith))) ∙ at_a);
      stays = there.stay ∷ rest.stays;
      one_each = let r = rest.one_each in omega (arith, length-set callers next (at_desk was given));
      late = late_more;
      home = home_more pool mid mid' pool' there.stay rest.stays
          (subst (λ (desk : Desk Macaroons Job Reply). IsGiven pool (pass_of desk.putter) mid) given_same went)
          there.attended.served.same_putter.0
          (subst (λ (desk : Desk Macaroons Job Reply). pool' ≡ with_home mid' (pass_of desk.putter)) back_same came)
          (subst (λ (desk : Desk Macaroons Job Reply). desk.taker ≡ fresh_taking desk.putter.mail) given_same none)
          (ap (λ (p : Putting Job). p.claimed) there.attended.served.put_is)
          outs rest.home;
    }
