-- How much memory a connection is counted for.
use Rattle.std.specs.Prelude.{ℕ, ◌+◌, ◌*◌, ◌==◌, min, max, if◌then◌else◌}
use Rattle.mac_gate.specs.declared.load.Load.{Load}
use Rattle.mac_gate.specs.declared.load.TheConstants.{READ_ROOM, REQUEST_TIMES, RESPONSE_TIMES}

-- nothing has come
abbrev pub no_load : Load
no_load = record { request = 0; response = 0 }

-- the longest request and the longest response stand
abbrev pub with_sizes : Load → ℕ → ℕ → Load
with_sizes load request response =
    record { request = max load.request request; response = max load.response response }

-- nothing, until something came; then room to read, and each length some times; counts end at 64 bits
abbrev pub held_by : Load → ℕ
held_by load =
    if load.request == 0 then 0
    else min (READ_ROOM + load.request * REQUEST_TIMES + load.response * RESPONSE_TIMES) 18_446_744_073_709_551_615
