-- A client in a loop, by all that came and went on its socket.
use Rattle.std.specs.Prelude.{◌≡◌, ◌⊎◌, ℕ, List, []}
use Rattle.mac_wire.specs.declared.arrival.Ending.TheVariants as ending
use Rattle.mac_decide.specs.declared.rights.Rights.{Rights}
use Rattle.mac_plain.specs.Lives.{Lives, SaidAll}
use Rattle.mac_plain.specs.declared.client.Client.{Client}
use Rattle.mac_plain.specs.declared.course.Course.TheVariants as course
use Rattle.mac_plain.specs.declared.course.Ended.TheVariants as ended
use Rattle.mac_loop.specs.declared.port.SocketPort.{SocketPort}

-- what came and went on its socket is its life, as it stands
abbrev pub IsAlive : Client SocketPort → Type 0
IsAlive client =
    ∥ Lives client.rights.value client.port.came client.port.went client.course client.session ∥₁

-- All replies were written, and nothing is left to be answered: its peer sends no more and all
-- requests are whole, or a frame was too long and is refused.
pub record EndsWell (client : Client SocketPort) : Type 0 where
  pub sent : client.session.unsent ≡ []
  pub whole : (client.course ≡ course.TooLong)
      ⊎ ((client.course ≡ course.Ended ended.Peer) × (client.session.carried.items ≡ []))

-- All is said, and what was read ends behind a request, or has a frame that is too long, behind
-- which nothing arrives.
abbrev pub HasEndedWell : Rights → (came went : List ℕ) → Type 0
HasEndedWell rights came went =
    SaidAll rights came went ending.Clean ⊎ SaidAll rights came went ending.Oversize
