-- A refusal changes nothing.
use Rattle.std.proofs.Common.{◌≡◌, ℕ, true, false, length, Option, Some, None, set, slice_get, sym, ◌∙◌, ap, refl, arith}
use Rattle.std.proofs.lemmas.Bool.{false≢true}
use Rattle.mac_order.specs.declared.event.Assignment.{Assignment}
use Rattle.mac_order.specs.declared.event.Event.{Event}
use Rattle.mac_order.specs.declared.event.Event.TheVariants.{Arrive, Claim, Finish, Send, Close}
use Rattle.mac_order.specs.declared.event.Outcome.{Outcome}
use Rattle.mac_order.specs.State.{Connection, State}
use Rattle.mac_order.specs.Step.{after_arrive, after_send, after_reply, after_close, after_finish, on_connection, step, is_change}
use Rattle.mac_order.proofs.Steps.{set-found, found_connection, found_claim, found_task, found_finish}

module _ {Job Reply : Type 0} where
  -- what is done with a connection leaves it as it was where it is refused
  abbrev KeepsRefused : (Connection Job Reply → Connection Job Reply × Outcome) → Type 0
  KeepsRefused act = (link : Connection Job Reply) → is_change (act link).1 ≡ false → (act link).0 ≡ link

  pub arrive-refused : (job : Job) → KeepsRefused (after_arrive job)
  arrive-refused job link refused = grind arith

  reply-refused : (reply_to : Job → Reply) (link : Connection Job Reply) (job : Option Job) → is_change (after_reply reply_to link job).1 ≡ false → (after_reply reply_to link job).0 ≡ link
  reply-refused reply_to link None refused = refl
  reply-refused reply_to link (Some job) refused = absurd (false≢true (sym refused))

  pub send-refused : (reply_to : Job → Reply) → KeepsRefused (after_send reply_to)
  send-refused reply_to link refused = grind (arith, reply-refused reply_to link (slice_get link.arrived (length link.sent)))

  pub close-refused : KeepsRefused after_close
  close-refused link refused = grind arith

  finish-changes : (place : ℕ) (link : Connection Job Reply) → is_change (after_finish place link).1 ≡ true
  finish-changes place link = grind arith

  module _ (state : State Job Reply) where
    connection-refused : (number : ℕ) (found : Option (Connection Job Reply)) (act : Connection Job Reply → Connection Job Reply × Outcome) → slice_get state.connections number ≡ found → KeepsRefused act
        → is_change (found_connection state number found act).1 ≡ false → (found_connection state number found act).0 ≡ state
    connection-refused number None act at keeps refused = refl
    connection-refused number (Some link) act at keeps refused =
        ap (λ connections. record state { connections = connections }) (ap (set state.connections number) (keeps link refused) ∙ set-found state.connections number link at)

    pub on_connection-refused : (number : ℕ) (act : Connection Job Reply → Connection Job Reply × Outcome) → KeepsRefused act → is_change (on_connection state number act).1 ≡ false → (on_connection state number act).0 ≡ state
    on_connection-refused number act keeps refused = connection-refused number (slice_get state.connections number) act refl keeps refused

    claim-refused : (worker : ℕ) (held : Option (Option Assignment)) (task : Assignment) (found : Option (Connection Job Reply)) → is_change (found_claim state worker held task found).1 ≡ false → (found_claim state worker held task found).0 ≡ state
    claim-refused worker None task found refused = refl
    claim-refused worker (Some held) task None refused = refl
    claim-refused worker (Some (Some held)) task (Some link) refused = refl
    claim-refused worker (Some None) task (Some link) refused = grind arith

    task-refused : (worker : ℕ) (task : Assignment) (found : Option (Connection Job Reply)) → is_change (found_task state worker task found).1 ≡ false → (found_task state worker task found).0 ≡ state
    task-refused worker task None refused = refl
    task-refused worker task (Some link) refused = absurd (false≢true (sym refused ∙ finish-changes task.place link))

    finish-refused : (worker : ℕ) (held : Option (Option Assignment)) → is_change (found_finish state worker held).1 ≡ false → (found_finish state worker held).0 ≡ state
    finish-refused worker None refused = refl
    finish-refused worker (Some None) refused = refl
    finish-refused worker (Some (Some task)) refused = task-refused worker task (slice_get state.connections task.connection) refused

pub step-refused : {Which Job Reply : Type 0} (reply_to : Job → Reply) (state : State Job Reply) (event : Event Which Job Reply) → is_change (step reply_to state event).1 ≡ false → (step reply_to state event).0 ≡ state
step-refused reply_to state (Arrive number job) refused = on_connection-refused state number (after_arrive job) (arrive-refused job) refused
step-refused reply_to state (Claim worker number place) refused = claim-refused state worker (slice_get state.workers worker) (record { connection = number; place = place }) (slice_get state.connections number) refused
step-refused reply_to state (Finish worker) refused = finish-refused state worker (slice_get state.workers worker) refused
step-refused reply_to state (Send number) refused = on_connection-refused state number (after_send reply_to) (send-refused reply_to) refused
step-refused reply_to state (Close number) refused = on_connection-refused state number after_close close-refused refused
