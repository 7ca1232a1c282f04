use Rattle.std.proofs.Common.{◌≡◌, take}
use Rattle.std.specs.List.{count_by}
use Rattle.mac_http.specs.Target.{is_slash}
use Rattle.mac_http.proofs.path.slashes.Given as goal

abbrev pub invariant-loop-byte : goal.invariant-loop-byte
invariant-loop-byte l = l.slashes ≡ count_by is_slash (take l.byte-index l.path)
