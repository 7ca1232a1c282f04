use Rattle.std.proofs.Common.{◌≡◌, map}
use Rattle.macaroond.proofs.rights.read_names.Given as goal

-- the names so far are the parts so far
abbrev pub invariant-loop-name : goal.invariant-loop-name
invariant-loop-name l = l.names.items ≡ map (λ part. part.now) l.yielded
