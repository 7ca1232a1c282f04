use Rattle.std.proofs.Common.{◌≡◌, ◌++◌, map, take}
use Rattle.mac_token.proofs.V2Writing.{caveat_sections}
use Rattle.mac_token.proofs.v2.writing.put_ids.Given as goal

-- the sections so far are appended
abbrev pub invariant-loop-caveat : goal.invariant-loop-caveat
invariant-loop-caveat l = l.out.items ≡ l.fn.out.items ++ caveat_sections (map (λ c. c.id) (take l.caveat-index l.caveats))
