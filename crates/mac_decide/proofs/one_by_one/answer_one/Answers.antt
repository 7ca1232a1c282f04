use Rattle.std.proofs.Common.{◌≡◌, IfOk, subst}
use Rattle.mac_wire.specs.declared.reply.Reply.{Reply}
use Rattle.mac_decide.specs.Viewed.{viewed}
use Rattle.mac_decide.proofs.SendableLemmas.{result-sent}
use Rattle.mac_decide.proofs.one_by_one.answer_one.Goals as goal

pub returns-clause-sendable : goal.returns-clause-sendable
returns-clause-sendable c =
    let job = viewed c.args.job.now in
    result-sent c.reply_by_sight-reply.result job.arrival job.basis
    (subst (λ (due : Reply). IfOk c.reply_by_sight-reply.result (λ r. r ≡ due)) c.in_ok-sight.ensures c.reply_by_sight-reply.ensures)
