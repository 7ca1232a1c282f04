-- How many clients a loop has, and how much is unsent on them: a connection is one value, so none is
-- counted twice.
use Rattle.std.specs.Prelude.{◌≡◌, ◌≢◌, ℕ, ◌+◌, List, Option, None, Some, length, map, option_to_list, sum_by}
use Rattle.mac_slots.specs.Slots.{Slots, at}
use Rattle.mac_sockets.specs.Connections.{count_held, weighed}
use Rattle.mac_loop.specs.declared.batch.Batch.{Batch}
use Rattle.mac_loop.specs.declared.handover.Handover.{Handover}
use Rattle.mac_loop.specs.declared.members.Member.{Member}
use Rattle.mac_loop.specs.declared.register.Origin.{Ghosts}
use Rattle.mac_loop.specs.Unsent.{unsent_on}

module _ {O : Type 0} {origin : Ghosts O} where
  -- how many clients are out of their slots for a turn
  abbrev pub count_batch : Batch O origin → ℕ
  count_batch batch = length batch.clients.items

  -- the slots that these are out of, the last one last
  abbrev pub slots_of : Batch O origin → List ℕ
  slots_of batch = map (λ lent. lent.slot) batch.lent.items

  -- how many clients there are: in slots, in a turn, and on the way to a slot
  abbrev pub count_there : Slots (Member O origin) → Batch O origin → Option (Handover O origin) → ℕ
  count_there slots batch newcomer =
      count_held slots + count_batch batch + length (option_to_list newcomer)

  -- how many bytes are unsent on what a slot holds
  abbrev pub unsent_of : Member O origin → ℕ
  unsent_of member = unsent_on member.client

  -- how many are unsent on the clients in slots together
  abbrev pub unsent_held : Slots (Member O origin) → ℕ
  unsent_held slots = weighed unsent_of slots

  -- the same of those that are out of their slots for a turn
  abbrev pub unsent_batch : Batch O origin → ℕ
  unsent_batch batch = sum_by unsent_on batch.clients.items

  -- the same of one that is on the way to a slot, where there is one
  abbrev pub unsent_coming : Option (Handover O origin) → ℕ
  unsent_coming None = 0
  unsent_coming (Some client) = length client.session.unsent

  -- the same of all that are there
  abbrev pub unsent_there : Slots (Member O origin) → Batch O origin → Option (Handover O origin) → ℕ
  unsent_there slots batch newcomer =
      unsent_held slots + unsent_batch batch + unsent_coming newcomer

  -- every slot but this one is what it was
  abbrev pub OthersStay : ℕ → Slots (Member O origin) → Slots (Member O origin) → Type 0
  OthersStay slot old new = (other : ℕ) → other ≢ slot → at new other ≡ at old other
