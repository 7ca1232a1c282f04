use Rattle.std.proofs.Common.{◌≡◌, drop}
use Rattle.mac_http.specs.Path.{has_unsafe}
use Rattle.mac_http.proofs.path.has_unsafe.Given as goal

-- nothing unsafe begins before the place
abbrev pub invariant-loop-start : goal.invariant-loop-start
invariant-loop-start l = has_unsafe l.strict (drop l.start l.path) ≡ has_unsafe l.strict l.path
