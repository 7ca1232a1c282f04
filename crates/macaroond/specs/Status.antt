-- How a run ends that listens, or can't.
use Rattle.mac_daemon.specs.declared.fault.DaemonFault.{DaemonFault}
use Rattle.mac_daemon.specs.declared.fault.DaemonFault.TheVariants as daemon
use Rattle.mac_gate.specs.declared.door.DoorFault.{DoorFault}
use Rattle.mac_gate.specs.declared.door.DoorFault.TheVariants as door
use Rattle.mac_gate.specs.declared.server.ServerFault.{ServerFault}
use Rattle.mac_gate.specs.declared.server.ServerFault.TheVariants as server
use Rattle.mac_commands.specs.declared.status.Status.{Status}
use Rattle.mac_commands.specs.declared.status.Status.TheVariants as status
use Rattle.macaroond.specs.declared.http.HttpFault.{HttpFault}
use Rattle.macaroond.specs.declared.http.HttpFault.TheVariants as http
use Rattle.macaroond.specs.declared.key_watch.ListenFault.{ListenFault}
use Rattle.macaroond.specs.declared.key_watch.ListenFault.TheVariants as listen

-- want of memory or of a thread; else the system's refusal
abbrev pub daemon_status : DaemonFault → Status
daemon_status (daemon.Place fault) = status.DeviceFault
daemon_status (daemon.Side fault) = status.DeviceFault
daemon_status (daemon.System fault) = status.DeviceFault
daemon_status (daemon.Handed fault) = status.DeviceFault
daemon_status daemon.Output = status.DeviceFault
daemon_status daemon.NoThread = status.NoMemory
daemon_status daemon.NoMemory = status.NoMemory

-- the same of a socket over HTTP, and of who accepts there
abbrev pub door_status : DoorFault → Status
door_status door.NoMemory = status.NoMemory
door_status (door.Place fault) = status.DeviceFault
door_status (door.System fault) = status.DeviceFault
door_status door.Taken = status.DeviceFault
door_status door.Forbidden = status.DeviceFault
door_status door.NotHere = status.DeviceFault

abbrev pub server_status : ServerFault → Status
server_status server.NoThread = status.NoMemory
server_status server.NoMemory = status.NoMemory
server_status (server.System fault) = status.DeviceFault

abbrev pub listen_status : ListenFault → Status
listen_status (listen.Daemon fault) = daemon_status fault
listen_status (listen.Door address fault) = door_status fault
listen_status (listen.Server fault) = server_status fault

-- a bad line, but for want of memory
abbrev pub http_status : HttpFault → Status
http_status (http.Address word fault) = status.BadLine
http_status http.Granted = status.BadLine
http_status http.Source = status.BadLine
http_status http.Call = status.BadLine
http_status http.Moved = status.BadLine
http_status (http.CallsAnywhere word) = status.BadLine
http_status http.NoMemory = status.NoMemory
