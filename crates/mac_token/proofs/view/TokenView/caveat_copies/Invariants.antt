use Rattle.std.proofs.Common.{◌≡◌, ◌++◌}
use Rattle.mac_token.specs.RawToken.{byte_lists}
use Rattle.mac_token.proofs.view.TokenView.caveat_copies.Given as goal

-- the copies so far, and the caveats that are left, are all of them
abbrev pub invariant-loop-caveat : goal.invariant-loop-caveat
invariant-loop-caveat l = byte_lists l.list.items ++ l.caveat-iterator ≡ l.self.caveats
