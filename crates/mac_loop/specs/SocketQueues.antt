-- What waits at a daemon's two sockets, and is taken in turn (this project's own).
use Rattle.std.specs.Prelude.{◌≡◌, ◌⊎◌, ◌<◌, ◌++◌, List, [], ◌∷◌}
use Rattle.std.specs.VecDeque.{deque_capacity, deque_len}
use Rattle.mac_host.specs.declared.badge.Socket.{Socket}
use Rattle.mac_host.specs.declared.badge.Socket.TheVariants.{Main, Side}
use Rattle.mac_loop.specs.declared.socket_queues.SocketQueues.{SocketQueues}

-- the other socket
abbrev pub other_of : Socket → Socket
other_of Main = Side
other_of Side = Main

-- those that wait at a socket, the first one in front
abbrev pub waiting : {T : Type 0} → SocketQueues T → Socket → List T
waiting queues Main = queues.main.items
waiting queues Side = queues.side.items

-- one more waits at a socket, behind all others there
pub record IsPut {T : Type 0} (was : SocketQueues T) (socket : Socket) (one : T) (now : SocketQueues T) : Type 0 where
  pub here : waiting now socket ≡ waiting was socket ++ one ∷ []
  pub there : waiting now (other_of socket) ≡ waiting was (other_of socket)
  pub next : now.next ≡ was.next

-- The first one of a socket is taken: of the one that comes next, or of the other one where nobody
-- waits there. Then the other one comes next.
pub record IsTakenInTurn {T : Type 0} (was : SocketQueues T) (socket : Socket) (one : T) (now : SocketQueues T) : Type 0 where
  pub first : waiting was socket ≡ one ∷ waiting now socket
  pub there : waiting now (other_of socket) ≡ waiting was (other_of socket)
  pub turn : (socket ≡ was.next) ⊎ (waiting was was.next ≡ [])
  pub next : now.next ≡ other_of socket

-- what was taken from a socket is its first one again, and this socket comes next
pub record IsPutBack {T : Type 0} (was : SocketQueues T) (socket : Socket) (one : T) (now : SocketQueues T) : Type 0 where
  pub first : waiting now socket ≡ one ∷ waiting was socket
  pub there : waiting now (other_of socket) ≡ waiting was (other_of socket)
  pub next : now.next ≡ socket

-- one more goes behind those of a socket without further memory
abbrev pub HasRoom : {T : Type 0} → SocketQueues T → Socket → Type 0
HasRoom queues Main = deque_len queues.main < deque_capacity queues.main
HasRoom queues Side = deque_len queues.side < deque_capacity queues.side

-- nobody waits at either
abbrev pub AreEmpty : {T : Type 0} → SocketQueues T → Type 0
AreEmpty queues = (queues.main.items ≡ []) × (queues.side.items ≡ [])
