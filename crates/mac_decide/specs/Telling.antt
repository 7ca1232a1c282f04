-- What is told of a verify beside its verdict (this project's own).
use Rattle.std.specs.Prelude.{List, ℕ}
use Rattle.mac_keys.specs.Keys.{listed}
use Rattle.mac_keys.specs.declared.keys.Keys.{Keys}
use Rattle.mac_token.specs.RawToken.{TokenParts}
use Rattle.mac_token.specs.Read.{read_of}
use Rattle.mac_wire.specs.declared.reply.Reply.{Reply}
use Rattle.mac_decide.specs.Answer.{told, unless_revoked, verdict_reply}
use Rattle.mac_decide.specs.Reading.{verdict_of}
use Rattle.mac_decide.specs.Revocation.{tells_revoked}
use Rattle.mac_decide.specs.declared.context.Context.{Context}
use Rattle.mac_decide.specs.declared.revocation.Telling.{Telling}
use Rattle.mac_decide.specs.declared.verdict.Verdict.{Verdict}

-- the reply of a verdict on a token, which may have been taken back
abbrev pub verdict_told : Telling → TokenParts → Verdict → Reply
verdict_told telling t v =
    unless_revoked (tells_revoked telling.revoked telling.name.now t.identifier)
    (verdict_reply telling.grant t v)

-- the reply to a verify of a token under these keys
abbrev pub verify_told : Telling → List ℕ → Context → Keys → Reply
verify_told telling token x keys =
    told (read_of token) (λ t. verdict_told telling t (verdict_of (listed keys) t x))
