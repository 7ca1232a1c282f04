use Rattle.std.proofs.Common.{◌≡◌, ◌++◌, map}
use Rattle.std.specs.Prelude.{codes}
use Rattle.mac_token.specs.RawToken.{byte_lists}
use Rattle.mac_http.specs.Path.{steps_within}
use Rattle.mac_http.proofs.facts.steps.put_steps.Given as goal

-- the facts of the steps so far are there
abbrev pub invariant-loop-before : goal.invariant-loop-before
invariant-loop-before l =
    byte_lists l.facts.items
    ≡ byte_lists l.fn.facts.items ++ map (λ step. codes "path under " ++ step) (steps_within l.path l.before)
