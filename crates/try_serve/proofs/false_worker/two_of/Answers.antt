use Rattle.std.proofs.Common.{List, ◌∷◌, ap, sym, ◌∙◌}
use Rattle.mac_decide.specs.declared.job.Job.{Job}
use Rattle.mac_queue.specs.Pass.{Pass}
use Rattle.try_serve.proofs.Firsts.{two_at}
use Rattle.try_serve.proofs.false_worker.two_of.Goals as goal

pub returns : goal.returns
returns c =
    let first = c.in_ok-first.first in
    let split = sym c.into_iter-passes.ensures.rest ∙ c.in_ok-first.ensures.items ∙ ap (λ (l : List (Pass Job)). first ∷ l) c.in_ok-second.ensures.items in
    two_at _ _ _ _ _ c.requires split
