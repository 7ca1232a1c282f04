-- What one event does, by cases, the first that holds. What a case does not name stays.
-- All of it is this project's own.
use Rattle.std.specs.Prelude.{ℕ, Bool, true, false, not, ◌&&◌, if◌then◌else◌, nat_lt, nat_le, [], ◌∷◌, ◌++◌, length, slice_get, slice_set, Option, None, Some}
use Rattle.std.specs.FinSet.{contains, insert}
use Rattle.mac_order.specs.State.{Connection, State, unsent}
use Rattle.mac_order.specs.declared.reorder.TheConstants.{SLOTS}
use Rattle.mac_order.specs.declared.event.Assignment.{Assignment}
use Rattle.mac_order.specs.declared.event.Event.{Event}
use Rattle.mac_order.specs.declared.event.Event.TheVariants.{Arrive, Claim, Finish, Send, Close}
use Rattle.mac_order.specs.declared.event.Outcome.{Outcome}
use Rattle.mac_order.specs.declared.event.Outcome.TheVariants.{Admitted, Claimed, Finished, Discarded, Sent, Closed, Ended, Full, Busy, Taken, Idle, Waiting, Nowhere}

module _ {Job Reply : Type 0} where
  -- a job arrives and takes the next place, unless the connection is closed or 128 are unsent
  abbrev pub after_arrive : Job → Connection Job Reply → Connection Job Reply × Outcome
  after_arrive job link =
      if link.closed then (link, Ended)
      else if nat_le SLOTS (unsent link) then (link, Full)
      else (record link { arrived = link.arrived ++ job ∷ [] }, Admitted (length link.arrived))

  -- whether a place may be claimed: it arrived, and nobody has claimed it
  abbrev pub is_claimable : Connection Job Reply → ℕ → Bool
  is_claimable link place = nat_lt place (length link.arrived) && not (contains link.claimed place)

  -- the place is claimed
  abbrev pub after_claim : ℕ → Connection Job Reply → Connection Job Reply
  after_claim place link = record link { claimed = insert link.claimed place }

  -- the place is finished, which is kept unless the connection is closed
  abbrev pub after_finish : ℕ → Connection Job Reply → Connection Job Reply × Outcome
  after_finish place link =
      if link.closed then (link, Discarded)
      else (record link { finished = insert link.finished place }, Finished)

  -- the reply to the job at the next place, if there is one, is sent
  abbrev pub after_reply : (Job → Reply) → Connection Job Reply → Option Job
      → Connection Job Reply × Outcome
  after_reply reply_to link None = (link, Waiting)
  after_reply reply_to link (Some job) =
      (record link { sent = link.sent ++ reply_to job ∷ [] }, Sent (length link.sent))

  -- the next reply is sent, where the connection is open and the first place not sent is finished
  abbrev pub after_send : (Job → Reply) → Connection Job Reply → Connection Job Reply × Outcome
  after_send reply_to link =
      if link.closed then (link, Ended)
      else if contains link.finished (length link.sent)
      then after_reply reply_to link (slice_get link.arrived (length link.sent))
      else (link, Waiting)

  -- the connection is closed, once
  abbrev pub after_close : Connection Job Reply → Connection Job Reply × Outcome
  after_close link = if link.closed then (link, Ended) else (record link { closed = true }, Closed)

  -- what is done with a connection, or a worker's claim, that was looked up; nothing where none is
  abbrev pub where_known : {Item : Type 0} → State Job Reply → Option Item
      → (Item → State Job Reply × Outcome) → State Job Reply × Outcome
  where_known state None act = (state, Nowhere)
  where_known state (Some item) act = act item

  -- the state with another connection in the place of one, and what came of that
  abbrev pub put_back : State Job Reply → ℕ → Connection Job Reply × Outcome
      → State Job Reply × Outcome
  put_back state number after =
      (record state { connections = slice_set state.connections number after.0 }, after.1)

  -- something is done with the connection of this number
  abbrev pub on_connection : State Job Reply → ℕ
      → (Connection Job Reply → Connection Job Reply × Outcome) → State Job Reply × Outcome
  on_connection state number act =
      where_known state (slice_get state.connections number)
      (λ link. put_back state number (act link))

  -- a worker that has this claim, if any, claims a place of this connection
  abbrev pub claim_with : State Job Reply → ℕ → Assignment → Option Assignment → Connection Job Reply
      → State Job Reply × Outcome
  claim_with state worker task (Some held) link = (state, Busy)
  claim_with state worker task None link =
      if is_claimable link task.place
      then (
        record {
          connections = slice_set state.connections task.connection (after_claim task.place link);
          workers = slice_set state.workers worker (Some task);
        },
        Claimed,
      )
      else (state, Taken)

  -- a worker claims a place of a connection
  abbrev pub claim_by : State Job Reply → ℕ → Assignment → State Job Reply × Outcome
  claim_by state worker task =
      where_known state (slice_get state.workers worker) (λ held.
      where_known state (slice_get state.connections task.connection)
      (claim_with state worker task held))

  -- a worker finishes this task, on this connection, and is free again
  abbrev pub finish_task : State Job Reply → ℕ → Assignment → Connection Job Reply
      → State Job Reply × Outcome
  finish_task state worker task link =
      let after = after_finish task.place link in (
        record {
          connections = slice_set state.connections task.connection after.0;
          workers = slice_set state.workers worker None;
        },
        after.1,
      )

  -- a worker that has this claim, if any, finishes it
  abbrev pub finish_with : State Job Reply → ℕ → Option Assignment → State Job Reply × Outcome
  finish_with state worker None = (state, Idle)
  finish_with state worker (Some task) =
      where_known state (slice_get state.connections task.connection)
      (finish_task state worker task)

  -- a worker finishes what it has claimed
  abbrev pub finish_by : State Job Reply → ℕ → State Job Reply × Outcome
  finish_by state worker =
      where_known state (slice_get state.workers worker) (finish_with state worker)

-- what an event does: the state after it, and its outcome
abbrev pub step : {Which Job Reply : Type 0} → (Job → Reply) → State Job Reply
    → Event Which Job Reply → State Job Reply × Outcome
step reply_to state (Arrive number job) = on_connection state number (after_arrive job)
step reply_to state (Claim worker number place) =
    claim_by state worker (record { connection = number; place = place })
step reply_to state (Finish worker) = finish_by state worker
step reply_to state (Send number) = on_connection state number (after_send reply_to)
step reply_to state (Close number) = on_connection state number after_close

-- whether something has changed where an event came to this
abbrev pub is_change : Outcome → Bool
is_change (Admitted place) = true
is_change Claimed = true
is_change Finished = true
is_change Discarded = true
is_change (Sent place) = true
is_change Closed = true
is_change outcome = false
