use Rattle.std.specs.Prelude.{not, filter, map}
use Rattle.mac_words.specs.Revoked.{says}
use Rattle.mac_words.proofs.KeptLines.{Keeps}
use Rattle.mac_words.proofs.revoked.without_revoked.Given as goal

abbrev pub invariant-loop-line : goal.invariant-loop-line
invariant-loop-line l =
    Keeps (filter (λ line. not (says l.name l.identifier line)) (map (λ s. s.now) l.yielded)) l.kept.items l.is_first
