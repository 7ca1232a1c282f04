use Rattle.std.proofs.Common.{◌≡◌}
use Rattle.mac_words.specs.Payload.{texts_of}
use Rattle.mac_words.specs.Warned.{warnings_to}
use Rattle.mac_words.proofs.warned.warnings.Given as goal

abbrev pub invariant-loop-place : goal.invariant-loop-place
invariant-loop-place l = l.text.items ≡ warnings_to l.place (texts_of l.caveats) l.moment
