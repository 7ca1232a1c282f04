-- Lists that the window allows are reached: one worker serves the first jobs in turn, and then the others arrive.
use Rattle.std.proofs.Common.{◌≡◌, ℕ, ◌+◌, ◌-◌, ◌<◌, ◌≤◌, false, true, nat_le, nat_lt, List, [], ◌∷◌, ◌++◌, length, map, Some, None, slice_get, sym, ◌∙◌, refl, subst, arith, append_assoc, append-nil, length-append}
use Rattle.std.specs.FinSet.{FinSet, contains, insert}
use Rattle.std.specs.Ordering.{nat_cmp}
use Rattle.mac_order.specs.declared.reorder.TheConstants.{SLOTS}
use Rattle.mac_order.specs.declared.event.Event.{Event}
use Rattle.mac_order.specs.declared.event.Event.TheVariants.{Arrive, Claim, Finish, Send}
use Rattle.mac_order.specs.State.{Connection, State}
use Rattle.mac_order.specs.Step.{step}
use Rattle.mac_order.specs.History.{LeadsTo}
use Rattle.mac_order.proofs.Places.{contains-insert_same, contains-insert_other}
use Rattle.mac_order.proofs.Beginnings.{slice_get-seam}

module _ {Job Reply : Type 0} where
  -- an open connection with these lists and sets
  abbrev live : List Job → List Reply → FinSet nat_cmp → FinSet nat_cmp → Connection Job Reply
  live arrived sent claimed finished = record { arrived = arrived; sent = sent; closed = false; claimed = claimed; finished = finished }

  -- this one connection, and one worker that has claimed nothing
  abbrev alone : Connection Job Reply → State Job Reply
  alone link = record { connections = link ∷ []; workers = None ∷ [] }

  -- this one connection, and one worker that has claimed this place of it
  abbrev at_work : Connection Job Reply → ℕ → State Job Reply
  at_work link place = record { connections = link ∷ []; workers = Some (record { connection = 0; place = place }) ∷ [] }

module _ (Which : Type 0) {Job Reply : Type 0} (reply_to : Job → Reply) where
  -- where an event leads to a state, what this leads to
  led_on : (arrived : List Job) (sent : List Reply) (state after : State Job Reply) (event : Event Which Job Reply) → (step reply_to state event).0 ≡ after → LeadsTo Which reply_to after arrived sent → LeadsTo Which reply_to state arrived sent
  led_on arrived sent state after event is rest =
      let here = subst (λ (from : State Job Reply). LeadsTo Which reply_to from arrived sent) (sym is) rest in
      record { events = event ∷ here.events; link = here.link; known = here.known; live = here.live; arrived_is = here.arrived_is; sent_is = here.sent_is }

  module _ (arrived : List Job) (sent : List Reply) (claimed finished : FinSet nat_cmp) where
    arrives : (job : Job) → length arrived < length sent + SLOTS → (step {Which = Which} reply_to (alone (live arrived sent claimed finished)) (Arrive 0 job)).0 ≡ alone (live (arrived ++ job ∷ []) sent claimed finished)
    arrives job room =
        let fits : nat_le SLOTS (length arrived - length sent) ≡ false = grind arith in
        rw fits refl

    claims : (place : ℕ) → place < length arrived → contains claimed place ≡ false → (step {Which = Which} reply_to (alone (live arrived sent claimed finished)) (Claim 0 0 place)).0 ≡ at_work (live arrived sent (insert claimed place) finished) place
    claims place within unclaimed =
        let here : nat_lt place (length arrived) ≡ true = grind arith in
        rw (here, unclaimed) refl

    finishes : (place : ℕ) → (step {Which = Which} reply_to (at_work (live arrived sent claimed finished) place) (Finish 0)).0 ≡ alone (live arrived sent claimed (insert finished place))
    finishes place = refl

    sends : (job : Job) → contains finished (length sent) ≡ true → slice_get arrived (length sent) ≡ Some job → (step {Which = Which} reply_to (alone (live arrived sent claimed finished)) (Send 0)).0 ≡ alone (live arrived (sent ++ reply_to job ∷ []) claimed finished)
    sends job is_finished found = rw (is_finished, found) refl

  module _ (jobs : List Job) (replies : List Reply) where
    -- one job is served
    serves : (done : List Job) (job : Job) (sent : List Reply) (claimed finished : FinSet nat_cmp) → length sent ≡ length done → contains claimed (length done) ≡ false
        → LeadsTo Which reply_to (alone (live (done ++ job ∷ []) (sent ++ reply_to job ∷ []) (insert claimed (length done)) (insert finished (length done)))) jobs replies
        → LeadsTo Which reply_to (alone (live done sent claimed finished)) jobs replies
    serves done job sent claimed finished same unclaimed rest =
        led_on jobs replies _ _ (Arrive 0 job) (arrives done sent claimed finished job (omega arith))
        (led_on jobs replies _ _ (Claim 0 0 (length done)) (claims (done ++ job ∷ []) sent claimed finished (length done) (simp length-append (omega arith)) unclaimed)
        (led_on jobs replies _ _ (Finish 0) (finishes (done ++ job ∷ []) sent (insert claimed (length done)) finished (length done))
        (led_on jobs replies _ _ (Send 0) (sends (done ++ job ∷ []) sent (insert claimed (length done)) (insert finished (length done)) job (contains-insert_same finished (length done) (length sent) same) (rw same (slice_get-seam done (job ∷ []))))
        rest)))

    -- all of these jobs arrive
    arrive_all : (rest done : List Job) (sent : List Reply) (claimed finished : FinSet nat_cmp) → length done + length rest ≤ length sent + SLOTS → done ++ rest ≡ jobs → sent ≡ replies
        → LeadsTo Which reply_to (alone (live done sent claimed finished)) jobs replies
    arrive_all [] done sent claimed finished room is replies_are =
        record { events = []; link = live done sent claimed finished; known = refl; live = refl; arrived_is = sym (append-nil done) ∙ is; sent_is = replies_are }
    arrive_all (job ∷ rest) done sent claimed finished room is replies_are =
        led_on jobs replies _ _ (Arrive 0 job) (arrives done sent claimed finished job (omega arith))
        (arrive_all rest (done ++ job ∷ []) sent claimed finished (simp length-append (omega arith)) (append_assoc done (job ∷ []) rest ∙ is) replies_are)

    -- these jobs are served in turn, and then the others arrive
    pub serve_all : (due rest done : List Job) (sent : List Reply) (claimed finished : FinSet nat_cmp) → length sent ≡ length done → ((place : ℕ) → length done ≤ place → contains claimed place ≡ false)
        → length rest ≤ SLOTS → done ++ (due ++ rest) ≡ jobs → sent ++ map reply_to due ≡ replies
        → LeadsTo Which reply_to (alone (live done sent claimed finished)) jobs replies
    serve_all [] rest done sent claimed finished same unclaimed room is replies_are =
        arrive_all rest done sent claimed finished (omega arith) is (sym (append-nil sent) ∙ replies_are)
    serve_all (job ∷ due) rest done sent claimed finished same unclaimed room is replies_are =
        serves done job sent claimed finished same (unclaimed (length done) (omega arith))
        (serve_all due rest (done ++ job ∷ []) (sent ++ reply_to job ∷ []) (insert claimed (length done)) (insert finished (length done))
        (simp length-append (omega arith))
        (λ place above. contains-insert_other claimed (length done) place (omega (arith, length-append done (job ∷ []))) ∙ unclaimed place (omega (arith, length-append done (job ∷ []))))
        room
        (append_assoc done (job ∷ []) (due ++ rest) ∙ is)
        (append_assoc sent (reply_to job ∷ []) (map reply_to due) ∙ replies_are))
