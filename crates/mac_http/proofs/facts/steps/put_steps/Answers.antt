use Rattle.std.specs.Prelude.{codes, ◌++◌}
use Rattle.mac_token.specs.RawToken.{byte_lists}
use Rattle.mac_http.proofs.PathLemmas.{steps_more, steps_none}
use Rattle.mac_http.proofs.facts.steps.put_steps.Goals as goal

pub loop-before-init : goal.loop-before-init
loop-before-init c = steps_none (λ step. codes "path under " ++ step) c.args.path.now (byte_lists c.args.facts.now.items)

pub loop-before-preserved : goal.loop-before-preserved
loop-before-preserved c =
    steps_more (λ step. codes "path under " ++ step) c.args.path.now c.loop-before.before _ _ _ c.loop-before.invariant c.in_ok-put_step.ensures
