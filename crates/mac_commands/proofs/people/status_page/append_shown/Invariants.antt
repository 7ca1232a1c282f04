use Rattle.std.proofs.Common.{◌≡◌, ◌++◌, take}
use Rattle.mac_commands.specs.Doing.{shown}
use Rattle.mac_commands.proofs.people.status_page.append_shown.Given as goal

abbrev pub invariant-loop-byte : goal.invariant-loop-byte
invariant-loop-byte l = l.out.items ≡ l.fn.out.items ++ shown (take l.byte-index l.body)
