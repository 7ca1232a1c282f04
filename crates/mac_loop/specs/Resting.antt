-- Which client of a loop has rested longest.
use Rattle.std.specs.Prelude.{◌≡◌, ◌≤◌, ℕ, Option, Some, None, IfSome, option_and_then}
use Rattle.mac_host.specs.declared.badge.Socket.{Socket}
use Rattle.mac_host.specs.declared.badge.Socket.TheVariants.{Main, Side}
use Rattle.mac_slots.specs.Slots.{Slots, at, held}
use Rattle.mac_loop.specs.declared.members.Member.{Member}
use Rattle.mac_loop.specs.declared.register.Origin.{Ghosts}
use Rattle.mac_loop.specs.declared.resting.Resting.{Resting}

-- something of a socket that is this one
abbrev pub of_socket : Socket → Socket → ℕ → Option ℕ
of_socket Main Main since = Some since
of_socket Side Side since = Some since
of_socket Main Side since = None
of_socket Side Main since = None

-- since when a client has rested, where it came in at this socket
abbrev pub since_at : {O : Type 0} {origin : Ghosts O} → Socket → Member O origin → Option ℕ
since_at socket member = of_socket socket member.note.badge.socket member.note.since

-- the same of the client of a slot, where there is one
abbrev pub rested_at : {O : Type 0} {origin : Ghosts O} → Socket → Slots (Member O origin) → ℕ
    → Option ℕ
rested_at socket slots slot = option_and_then (since_at socket) (held (at slots slot))

-- one was found that has rested since then, or for longer
abbrev pub RestedSince : Option Resting → ℕ → Type 0
RestedSince None since = ⊥
RestedSince (Some found) since = found.since ≤ since

-- the one that has rested longest of those of a socket; none is found where there is none
pub record IsStalest {O : Type 0} {origin : Ghosts O} (socket : Socket) (slots : Slots (Member O origin))
    (found : Option Resting) : Type 0 where
  pub one : IfSome found (λ one. rested_at socket slots one.slot ≡ Some one.since)
  pub longest : (slot since : ℕ) → rested_at socket slots slot ≡ Some since → RestedSince found since
