use Rattle.std.proofs.Common.{map, Ok}
use Rattle.std.specs.List.{AllZip}
use Rattle.mac_gate.specs.Address.{ReadsAs}
use Rattle.mac_gate.proofs.address.read_addresses.Given as goal

-- the addresses so far are those of the words so far
abbrev pub invariant-loop-word : goal.invariant-loop-word
invariant-loop-word l =
    AllZip (λ word address. ReadsAs l.reach word (Ok address)) (map (λ word. word.now) l.yielded) l.addresses.items
