use Rattle.std.proofs.Common.{◌≡◌, ◌++◌, take}
use Rattle.mac_token.specs.RawToken.{byte_lists}
use Rattle.mac_token.proofs.token.append_copies.Given as goal

-- the old list, and a copy of each that was added so far
abbrev pub invariant-loop-bytes : goal.invariant-loop-bytes
invariant-loop-bytes l = byte_lists l.list.items ≡ byte_lists l.fn.list.items ++ byte_lists (take l.bytes-index l.added)
