use Rattle.mac_token.specs.Read.{read_of}
use Rattle.mac_decide.proofs.RevocationLemmas.{without-read}
use Rattle.mac_decide.proofs.revocation.is_listed.Goals as goal

pub returns-then-is_without : goal.returns-then-is_without
returns-then-is_without c =
    without-read c.args.list.now c.args.name.now (read_of c.args.token.now) (c.is_without.ensures c.if-is_without.true)
