use Rattle.std.proofs.Common.{◌≡◌}
use Rattle.mac_token.specs.RawToken.{byte_lists}
use Rattle.mac_calls.specs.Warned.{warnings_to}
use Rattle.mac_calls.proofs.warned.list_warnings.Given as goal

abbrev pub invariant-loop-place : goal.invariant-loop-place
invariant-loop-place l = l.list.items ≡ warnings_to l.place (byte_lists l.caveats) l.moment
