-- How a connection over HTTP goes on from turn to turn (this project's own).
use Rattle.std.specs.Prelude.{◌≡◌, ◌⊎◌, ℕ, IfSome, List, ◌++◌, Option, Some, None, count_by, not, option_map}
use Rattle.http_server.specs.Connection.{history}
use Rattle.http_server.specs.Exchange.{Call}
use Rattle.mac_slots.specs.Slots.{Slots, at, held, is_free}
use Rattle.mac_sockets.specs.declared.stream.Stream.{Stream}
use Rattle.mac_gate.specs.declared.connection.HttpConnection.{HttpConnection}
use Rattle.mac_gate.specs.declared.offer.Offer.{Offer}
use Rattle.mac_gate.specs.declared.turning.InTurn.{InTurn}

-- What a connection has had: its stream, with the number by which the system knows it, what is
-- offered to it, all that came and all that went, and the requests that were answered.
pub record Past : Type 0 where
  pub stream : Stream
  pub offer : Offer
  pub came : List ℕ
  pub went : List ℕ
  pub calls : List Call

-- that of a connection between turns
abbrev pub past_of : HttpConnection → Past
past_of one = record {
  stream = one.stream;
  offer = one.offer.value;
  came = one.flow.came.bytes;
  went = one.flow.went.bytes;
  calls = (history one.connection.value).calls;
}

-- that of a connection in its turn
abbrev pub past_in_turn : InTurn → Past
past_in_turn one = record {
  stream = one.stream;
  offer = one.offer.value;
  came = one.flow.came.bytes;
  went = one.flow.went.bytes;
  calls = (history one.connection.value).calls;
}

-- the first list is a beginning of the second
abbrev pub Begins : {X : Type 0} → List X → List X → Type 0
Begins {X} xs ys = (more : List X) × (ys ≡ xs ++ more)

-- A connection goes on: it is the same stream under the same number, and the same is offered to it.
-- What came, what went and what was answered is all that was, with more behind it.
pub record GoesOn (before after : Past) : Type 0 where
  pub stream : after.stream ≡ before.stream
  pub offer : after.offer ≡ before.offer
  pub came : Begins before.came after.came
  pub went : Begins before.went after.went
  pub called : Begins before.calls after.calls

-- whoever is there was there, and goes on; one that was there may have left
abbrev pub IsKept : Option Past → Option Past → Type 0
IsKept before None = Unit {0}
IsKept None (Some after) = ⊥
IsKept (Some before) (Some after) = GoesOn before after

-- that of the connection in a slot, if one is there
abbrev pub past_at : Slots HttpConnection → ℕ → Option Past
past_at slots slot = option_map past_of (held (at slots slot))

-- what is had by who is in a slot stays as it was
abbrev pub KeepTheirs : Slots HttpConnection → Slots HttpConnection → Type 0
KeepTheirs old new = (slot : ℕ) → past_at new slot ≡ past_at old slot

-- each connection that is in a slot was in that slot, and goes on from what it had
abbrev pub StayInPlace : Slots HttpConnection → Slots HttpConnection → Type 0
StayInPlace old new = (slot : ℕ) → IsKept (past_at old slot) (past_at new slot)

-- how many slots are somebody's
abbrev pub count_there : Slots HttpConnection → ℕ
count_there slots = count_by (λ slot. not (is_free slot)) slots.slots

-- each connection that is in a slot is offered this
abbrev pub AreOffered : Offer → Slots HttpConnection → Type 0
AreOffered offer slots = (slot : ℕ) → IfSome (past_at slots slot) (λ past. past.offer ≡ offer)

-- this one came into a slot that nobody was in, or into none; the others keep what they had
abbrev pub TakesIn : Past → Slots HttpConnection → Slots HttpConnection → Type 0
TakesIn one old new = (slot : ℕ) → (past_at new slot ≡ past_at old slot)
    ⊎ ((past_at old slot ≡ None) × (past_at new slot ≡ Some one))
