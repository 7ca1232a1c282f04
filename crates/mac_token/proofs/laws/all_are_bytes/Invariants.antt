use Rattle.std.proofs.Common.{All, take}
use Rattle.base64.specs.GeneralPurpose.{IsBytes}
use Rattle.mac_token.proofs.laws.all_are_bytes.Given as goal

abbrev pub invariant-loop-list : goal.invariant-loop-list
invariant-loop-list l = All (λ list. IsBytes list.items) (take l.list-index l.lists)
