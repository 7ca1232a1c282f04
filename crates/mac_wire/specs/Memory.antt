-- Devices over memory as their callers see them, and what one call does.
use Rattle.std.specs.Prelude.{ℕ, ◌+◌, ◌-◌, min, Bool, ◌||◌, ◌&&◌, ◌==◌, nat_lt, if◌then◌else◌, List, ◌++◌, length, take, drop, Result, Ok, Err}
use Rattle.mac_wire.specs.declared.device.DeviceFault.{DeviceFault}

-- a source over memory
pub record SourceState : Type 0 where
  -- the bytes given so far, and those that are left
  pub given : List ℕ
  pub left : List ℕ
  -- at most how many bytes a call gives, and which call from now on fails, 0 for none
  pub piece : ℕ
  pub fails : ℕ
  pub has_ended : Bool
  pub fault_count : ℕ

-- how many bytes a call that doesn't fail gives into a buffer with that room
abbrev pub read_count : SourceState → ℕ → ℕ
read_count s room = min (min s.piece room) (length s.left)

-- what the next read answers
abbrev pub read_result : SourceState → ℕ → Result ℕ DeviceFault
read_result s room = if s.fails == 1 then Err (record {}) else Ok (read_count s room)

-- the source after the next read: a fault is counted, and else the front of what is left was given
abbrev pub after_read : SourceState → ℕ → SourceState
after_read s room =
    if s.fails == 1 then record s { fails = 0; fault_count = s.fault_count + 1 }
    else record s {
      given = s.given ++ take (read_count s room) s.left;
      left = drop (read_count s room) s.left;
      fails = s.fails - 1;
      has_ended = s.has_ended || (read_count s room == 0 && nat_lt 0 room);
    }

-- a sink over memory
pub record SinkState : Type 0 where
  -- the bytes taken so far, and how many more it has room for
  pub kept : List ℕ
  pub room : ℕ
  -- at most how many bytes a call takes, and which call from now on fails, 0 for none
  pub piece : ℕ
  pub fails : ℕ
  pub fault_count : ℕ

-- how many bytes a call that doesn't fail takes of that many
abbrev pub write_count : SinkState → ℕ → ℕ
write_count s offered = min (min s.piece offered) s.room

-- the next write fails: it is the one that was to fail, or no room is left
abbrev pub write_fails : SinkState → Bool
write_fails s = s.fails == 1 || s.room == 0

-- what the next write answers
abbrev pub write_result : SinkState → ℕ → Result ℕ DeviceFault
write_result s offered = if write_fails s then Err (record {}) else Ok (write_count s offered)

-- the sink after the next write: a fault is counted, and else the front of the bytes was taken
abbrev pub after_write : SinkState → List ℕ → SinkState
after_write s bytes =
    if write_fails s then record s { fails = s.fails - 1; fault_count = s.fault_count + 1 }
    else record s {
      kept = s.kept ++ take (write_count s (length bytes)) bytes;
      room = s.room - write_count s (length bytes);
      fails = s.fails - 1;
    }
