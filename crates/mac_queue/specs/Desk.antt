-- What contracts compare of desks.
use Rattle.std.specs.Prelude.{◌≡◌}
use Rattle.mac_queue.specs.Pass.{IsSamePass}
use Rattle.mac_queue.specs.Putting.{pass_of}
use Rattle.mac_queue.specs.declared.desk.Desk.{Desk}

-- one and the same desk, whatever was put and taken there in between: its pass, and the mailbox of
-- each of its two ends
abbrev pub IsSameDesk : {S Job Reply : Type 0} → Desk S Job Reply → Desk S Job Reply → Type 0
IsSameDesk before after =
    IsSamePass (pass_of before.putter) (pass_of after.putter)
    × (after.putter.mail ≡ before.putter.mail)
    × (after.taker.mail ≡ before.taker.mail)
