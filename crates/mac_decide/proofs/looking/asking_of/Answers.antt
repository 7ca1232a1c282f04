use Rattle.std.proofs.Common.{sym}
use Rattle.mac_wire.specs.Reading.{request_of}
use Rattle.mac_decide.specs.declared.asking.Asking.{Asking}
use Rattle.mac_decide.proofs.RevocationLemmas.{asking-parsed}
use Rattle.mac_decide.proofs.looking.asking_of.Goals as goal

pub returns-in-Some-clause-asks : goal.returns-in-Some-clause-asks
returns-in-Some-clause-asks c =
    let job = c.args.job.now in
    let asking : Asking = record { request = c.in-Some.request; keys = job.keys; revoked = job.revoked; may_mint = job.may_mint; moment = job.moment } in
    asking-parsed asking (request_of c.args.payload.now) (sym c.in-Some.ensures.exact)
