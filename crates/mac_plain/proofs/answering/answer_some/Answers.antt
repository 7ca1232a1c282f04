use Rattle.std.proofs.Common.{List, sym, subst}
use Rattle.mac_board.specs.Noticed.{lent_current}
use Rattle.mac_wire.specs.declared.reply.Reply.{Reply}
use Rattle.mac_plain.specs.Requests.{AreReplies, jobs_at}
use Rattle.mac_plain.proofs.answering.answer_some.Goals as goal

pub returns-in-Ok : goal.returns-in-Ok
returns-in-Ok g c =
    c.hand_out.ensures (lent_current c.args.run.current) c.args.run.arena.now
    (subst (λ (l : List Reply). AreReplies (jobs_at (lent_current c.args.run.current) c.args.clients.now c.args.run.arena.now c.args.run.requests.now) l) (sym c.as_slice.ensures.value) c.in-Ok.ensures.replies)
