use Rattle.std.proofs.Common.{◌++◌, arith, ap}
use Rattle.std.proofs.lemmas.List.Sums.{sum_by-append}
use Rattle.std.specs.List.{sum_by}
use Rattle.mac_loop.specs.Leaf.{leaf}
use Rattle.mac_loop.proofs.LedgerLemmas.{joins}
use Rattle.mac_loop.proofs.ledger.Ledger.leave.Goals as goal

pub join_seat-requires : goal.join_seat-requires
join_seat-requires g c =
    let a = c.args.book.now.seat.me.0 in
    let b = c.args.entry.seat.me.0 in
    let is = c.args.entry.there in (
      c.requires.0,
      c.requires.1,
      ap (λ me. me.1) is,
      omega (arith, c.args.self.now.word),
      λ s was at apart at'. joins c.args.self.now.leaves.shared.key s.views c.args.book.now.seat.id a c.args.entry.seat.id b
          (leaf a.books a.entered (a.gone ++ b.there) a.there)
          (λ none. absurd (omega (arith, none, c.args.book.now.some)))
          (omega (arith, ap (λ me. me.0.books) is))
          (λ w. omega (arith, ap (λ me. sum_by w me.0.entered) is))
          (λ w. omega (arith, ap (λ me. sum_by w me.0.entered) is, ap (λ me. sum_by w me.0.gone) is, sum_by-append w a.gone b.there))
          at apart at' was,
    )
