use Rattle.std.proofs.Common.{◌≡◌, IfOk, subst}
use Rattle.mac_wire.specs.Request.{asked}
use Rattle.mac_wire.specs.declared.reply.Reply.{Reply}
use Rattle.mac_decide.specs.Asking.{asking_basis}
use Rattle.mac_decide.proofs.SendableLemmas.{request-result-sent}
use Rattle.mac_decide.proofs.one_by_one.answer_request.Goals as goal

pub returns-clause-sendable : goal.returns-clause-sendable
returns-clause-sendable c =
    let asking = c.args.asking in
    request-result-sent c.reply_by_sight.result (asked asking.request) (asking_basis asking)
    (subst (λ (due : Reply). IfOk c.reply_by_sight.result (λ r. r ≡ due)) c.in_ok-sight.ensures c.reply_by_sight.ensures)
