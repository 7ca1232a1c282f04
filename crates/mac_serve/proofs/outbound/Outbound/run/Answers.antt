use Rattle.std.proofs.Common.{◌∙◌, ap}
use Rattle.mac_queue.specs.Taking.{Taking}
use Rattle.mac_decide.specs.declared.job.Job.{Job}
use Rattle.mac_serve.specs.declared.outbound.Outbound.{Outbound}
use Rattle.mac_serve.proofs.SendingLemmas.{closed-after}
use Rattle.mac_serve.proofs.outbound.Outbound.run.Goals.{then-is_err, else-is_err}
use Rattle.mac_serve.proofs.outbound.Outbound.run.Goals as goal

pub returns : goal.returns
returns g c =
    let o : Outbound = c.send_if_counted-ended.new.self in
    elim c.if-is_err.branch [
      | then-is_err w ↦ closed-after c.send_if_counted-ended.ensures (w.self-is ∙ ap (λ (taker : Taking Job). record o { taker = taker }) w.close.ensures)
      | else-is_err w ↦ closed-after c.send_if_counted-ended.ensures w.self-is
    ]
