-- What a step gives where the connection and the worker are known.
use Rattle.std.proofs.Common.{◌≡◌, ◌≢◌, ℕ, zero, suc, set, List, [], ◌∷◌, Option, Some, None, slice_get, sym, ap, refl}
use Rattle.std.proofs.lemmas.Option.{none-some, same_Some}
use Rattle.mac_order.specs.declared.event.Assignment.{Assignment}
use Rattle.mac_order.specs.declared.event.Outcome.{Outcome}
use Rattle.mac_order.specs.State.{Connection, State}
use Rattle.mac_order.proofs.Put.{slice_get-set_other}
use Rattle.mac_order.specs.Step.{where_known, put_back, on_connection, claim_with, finish_task, finish_with}

-- what is put back where it was found changes nothing
pub set-found : {Item : Type 0} (items : List Item) (index : ℕ) (item : Item) → slice_get items index ≡ Some item → set items index item ≡ items
set-found [] index item found = absurd (none-some _ found)
set-found (first ∷ items) zero item found = ap (λ here. here ∷ items) (sym (same_Some _ _ found))
set-found (first ∷ items) (suc index) item found = ap (λ rest. first ∷ rest) (set-found items index item found)

-- What is done with what was looked up.
module _ {Job Reply : Type 0} (state : State Job Reply) where
  abbrev pub found_connection : ℕ → Option (Connection Job Reply) → (Connection Job Reply → Connection Job Reply × Outcome) → State Job Reply × Outcome
  found_connection number found act = where_known state found (λ link. put_back state number (act link))

  abbrev pub found_claim : ℕ → Option (Option Assignment) → Assignment → Option (Connection Job Reply) → State Job Reply × Outcome
  found_claim worker held task found = where_known state held (λ claim. where_known state found (claim_with state worker task claim))

  abbrev pub found_task : ℕ → Assignment → Option (Connection Job Reply) → State Job Reply × Outcome
  found_task worker task found = where_known state found (finish_task state worker task)

  abbrev pub found_finish : ℕ → Option (Option Assignment) → State Job Reply × Outcome
  found_finish worker held = where_known state held (finish_with state worker)

module _ {Job Reply : Type 0} where
  -- an event on a connection that is there
  pub on_connection-known : (state : State Job Reply) (number : ℕ) (act : Connection Job Reply → Connection Job Reply × Outcome) (link after : Connection Job Reply) (outcome : Outcome) → slice_get state.connections number ≡ Some link → ◌≡◌ {A = Connection Job Reply × Outcome} (after, outcome) (act link)
      → ◌≡◌ {A = State Job Reply × Outcome} (record state { connections = set state.connections number after }, outcome) (on_connection state number act)
  on_connection-known state number act link after outcome known is =
      rw known (ap (λ (pair : Connection Job Reply × Outcome). (record state { connections = set state.connections number pair.0 }, pair.1)) is)

-- an event on one connection leaves every other as it was
pub on_connection-other : {Job Reply : Type 0} (state : State Job Reply) (number other : ℕ) (found : Option (Connection Job Reply)) (act : Connection Job Reply → Connection Job Reply × Outcome) → other ≢ number → slice_get (found_connection state number found act).0.connections other ≡ slice_get state.connections other
on_connection-other state number other None act apart = refl
on_connection-other state number other (Some link) act apart = slice_get-set_other state.connections number (act link).0 other apart
