-- How many connections there may be at the sockets of a daemon, and who gives way to a further one.
use Rattle.std.specs.Prelude.{◌+◌, ◌-◌, ◌≤◌, ◌&&◌, ℕ, Bool, if◌then◌else◌, nat_lt}
use Rattle.mac_host.specs.declared.badge.Socket.{Socket}
use Rattle.mac_host.specs.declared.badge.Socket.TheVariants.{Main, Side}
use Rattle.mac_daemon.specs.declared.room.Entry.{Entry}
use Rattle.mac_daemon.specs.declared.room.Entry.TheVariants.{Free, SideFull, Full}
use Rattle.mac_daemon.specs.declared.room.Most.{Most}

-- how many there may be, and how many there are at each socket
pub record Places : Type 0 where
  pub most : Most
  pub main : ℕ
  pub side : ℕ

-- there are no more than there may be, of all and at the second socket
pub record IsWithin (room : Places) : Type 0 where
  pub all : room.main + room.side ≤ room.most.all
  pub side : room.side ≤ room.most.side

-- none is there yet
abbrev pub no_connections : Most → Places
no_connections most = record { most = most; main = 0; side = 0 }

-- one more, or one less, at a socket
abbrev pub with_one : Places → Socket → Places
with_one room Main = record room { main = room.main + 1 }
with_one room Side = record room { side = room.side + 1 }

abbrev pub without_one : Places → Socket → Places
without_one room Main = record room { main = room.main - 1 }
without_one room Side = record room { side = room.side - 1 }

-- there may be one more of all
abbrev pub is_below : Places → Bool
is_below room = nat_lt room.main (room.most.all - room.side)

-- there may be one more at a socket
abbrev pub has_room : Places → Socket → Bool
has_room room Main = is_below room
has_room room Side = is_below room && nat_lt room.side room.most.side

-- the socket that has more connections; the one that is asked of, where both have as many
abbrev pub fuller_than : Places → Socket → Socket
fuller_than room Main = if nat_lt room.main room.side then Side else Main
fuller_than room Side = if nat_lt room.side room.main then Main else Side

-- what becomes of one that finds no room
abbrev pub full_at : Places → Socket → Entry
full_at room Main = Full (fuller_than room Main)
full_at room Side =
    if nat_lt room.side room.most.side then Full (fuller_than room Side) else SideFull

-- what becomes of one that comes in at a socket
abbrev pub entry_at : Places → Socket → Entry
entry_at room socket = if has_room room socket then Free else full_at room socket

-- the connections behind that: who gives way hasn't gone yet
abbrev pub with_entry : Places → Socket → Entry → Places
with_entry room socket Free = with_one room socket
with_entry room socket SideFull = room
with_entry room socket (Full _) = room
