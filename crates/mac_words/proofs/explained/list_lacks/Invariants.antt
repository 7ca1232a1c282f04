use Rattle.std.proofs.Common.{◌≡◌}
use Rattle.mac_token.specs.RawToken.{byte_lists}
use Rattle.mac_words.specs.Explained.{lacks_to}
use Rattle.mac_words.proofs.explained.list_lacks.Given as goal

abbrev pub invariant-loop-place : goal.invariant-loop-place
invariant-loop-place l = l.text.items ≡ lacks_to l.place (byte_lists l.caveats) l.context
