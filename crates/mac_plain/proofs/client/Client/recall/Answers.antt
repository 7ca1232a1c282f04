use Rattle.std.proofs.Common.{refl, subst, sym}
use Rattle.mac_board.specs.Noticed.{lent_current}
use Rattle.mac_wire.specs.Reply.{IsReply}
use Rattle.mac_decide.proofs.SendableLemmas.{reply-sent}
use Rattle.mac_plain.specs.Client.{asked_job}
use Rattle.mac_plain.proofs.Recalls.{keeps_rights, known_at_once, takes_reply}
use Rattle.mac_plain.proofs.client.Client.recall.Goals as goal

pub pass_with-requires : goal.pass_with-requires
pass_with-requires g c =
    let job = asked_job (lent_current c.args.current) c.args.self.now in
    subst IsReply (sym c.in-Some.ensures.reply) (reply-sent job.arrival job.basis)

pub returns-in-Some-clause-takes : goal.returns-in-Some-clause-takes
returns-in-Some-clause-takes g c told =
    takes_reply c.args.self.now c.pass_with.new.self c.in-Some.reply (asked_job (lent_current c.args.current) c.args.self.now) c.in-Some.ensures.reply c.pass_with.ensures

pub returns-in-Some-clause-answers : goal.returns-in-Some-clause-answers
returns-in-Some-clause-answers g c told =
    known_at_once g.P.Port.tells g.P.Port.taken g.P.Port.written c.args.self.now c.pass_with.new.self c.in-Some.reply (asked_job (lent_current c.args.current) c.args.self.now)
    c.in-Some.ensures.wide refl c.in-Some.ensures.reply c.pass_with.ensures

pub returns-in-Some-clause-rights : goal.returns-in-Some-clause-rights
returns-in-Some-clause-rights g c = keeps_rights c.args.self.now c.pass_with.new.self c.in-Some.reply c.pass_with.ensures
