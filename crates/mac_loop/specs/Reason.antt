-- Why requests on a connection weren't done.
use Rattle.std.specs.Prelude.{ℕ, Option, Some, None, option_map}
use Rattle.mac_host.specs.declared.exchange.LoggedReason.{LoggedReason}
use Rattle.mac_host.specs.declared.exchange.LoggedReason.TheVariants.{Code, Caveat}
use Rattle.mac_wire.specs.Reply.{refusal_code}
use Rattle.mac_wire.specs.declared.reply.Reply.{Reply}
use Rattle.mac_wire.specs.declared.reply.Reply.TheVariants as reply
use Rattle.mac_wire.specs.declared.reply.ReplyKind.{ReplyKind}
use Rattle.mac_wire.specs.declared.reply.ReplyKind.TheVariants as kind

-- the reason that a reply tells: the number of a refusal, or the index of a caveat
abbrev pub reason_of : Reply → Option LoggedReason
reason_of reply.Granted = None
reason_of (reply.GrantedTo identifier location) = None
reason_of (reply.Token bytes) = None
reason_of (reply.Refused why) = Some (Code (refusal_code why))
reason_of (reply.Unsatisfied index) = Some (Caveat index)

-- the same, as the reply's kind tells it, and the index behind that
abbrev pub reason_told : ReplyKind → Option ℕ → Option LoggedReason
reason_told kind.Granted index = None
reason_told kind.Token index = None
reason_told kind.Unsatisfied index = option_map Caveat index
reason_told (kind.Refused code) index = Some (Code code)
