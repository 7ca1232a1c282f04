-- What a daemon that runs was asked for.
use Rattle.std.specs.Prelude.{ℕ, Option}
use Rattle.std.specs.declared.alloc.Global.{Global}
use Rattle.std.specs.declared.sync.Arc.{Arc}
use Rattle.mac_decide.specs.declared.rights.Rights.{Rights}
use Rattle.mac_sockets.specs.Entrance.{doors_of}
use Rattle.mac_sockets.specs.declared.entrance.Entrance.{Entrance}
use Rattle.mac_daemon.specs.Arrivals.{DaemonDoors}
use Rattle.mac_daemon.specs.declared.listening.Daemon.{Daemon}

-- how many connections it is to accept
abbrev pub count_of : Daemon → Option ℕ
count_of daemon = daemon.serving.promise.count

-- how many loops answer them
abbrev pub loops_of : Daemon → ℕ
loops_of daemon = daemon.serving.promise.loops

-- how many workers answer what loops must not
abbrev pub workers_of : Daemon → ℕ
workers_of daemon = daemon.serving.promise.workers

-- where its connections come in, as that was opened
abbrev pub entrance_of : Daemon → Entrance (Arc Rights Global)
entrance_of daemon = daemon.serving.promise.entrance.value

-- the doors that they come in by
abbrev pub daemon_doors : Daemon → DaemonDoors
daemon_doors daemon = doors_of (entrance_of daemon)
