use Rattle.std.proofs.Common.{refl, arith}
use Rattle.atomic_table.specs.Table.{keeps}
use Rattle.mac_loop.proofs.LedgerLemmas.{settles, stays}
use Rattle.mac_loop.proofs.ledger.Ledger.settle.Goals as goal

pub load-requires : goal.load-requires
load-requires g c =
    let a = c.args.book.now.seat.me.0 in (
      c.requires.of,
      omega (arith, c.args.self.now.word),
      λ s was homes at small. (
        a,
        keeps,
        tt,
        stays c.args.self.now.leaves.shared.key s.views c.args.book.now.seat.id a at was,
        (refl, settles c.args.self.now.leaves.shared.key s.views c.args.book.now.seat.id a c.requires.all at was),
      ),
    )
