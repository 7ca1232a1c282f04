use Rattle.std.proofs.Common.{◌≡◌, IfOk, subst}
use Rattle.mac_wire.specs.declared.reply.Reply.{Reply}
use Rattle.mac_decide.specs.Seen.{due_of}
use Rattle.mac_decide.proofs.looking.look_at_payload.Goals as goal

pub returns-in-Some : goal.returns-in-Some
returns-in-Some c =
    subst (λ (due : Reply). IfOk c.look_at.result (λ sight. due_of sight ≡ due)) c.in-Some.ensures.asks c.look_at.ensures
