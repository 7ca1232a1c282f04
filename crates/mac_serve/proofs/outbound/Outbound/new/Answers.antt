use Rattle.std.proofs.Common.{refl}
use Rattle.mac_serve.proofs.SendingLemmas.{stands-new}
use Rattle.mac_serve.proofs.outbound.Outbound.new.Goals as goal

pub returns-clause-stands : goal.returns-clause-stands
returns-clause-stands c =
    stands-new (record { ring = c.args.ring; taker = c.args.taker; version = c.args.version; base = c.args.base; gathered = c.new.result; sent = 0; written = 0 })
    c.requires.fresh c.requires.empty refl refl c.new.ensures.items
