-- Requests that are to be answered, where their parts lie (this project's own).
use Rattle.std.specs.Option.{option_copied}
use Rattle.mac_wire.specs.Request.{asked}
use Rattle.mac_wire.specs.declared.reply.Reply.{Reply}
use Rattle.mac_decide.specs.Answer.{request_reply}
use Rattle.mac_decide.specs.Revocation.{request_revoked}
use Rattle.mac_decide.specs.declared.asking.Asking.{Asking}
use Rattle.mac_decide.specs.declared.job.Basis.{Basis}

-- what a request is answered on
abbrev pub asking_basis : Asking → Basis
asking_basis a = record {
  keys = option_copied a.keys;
  is_revoked = request_revoked a.revoked (asked a.request);
  may_mint = a.may_mint;
  moment = a.moment;
}

-- the reply to it
abbrev pub asking_reply : Asking → Reply
asking_reply a = request_reply (asked a.request) (asking_basis a)
