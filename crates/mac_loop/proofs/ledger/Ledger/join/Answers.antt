use Rattle.std.proofs.Common.{◌+◌, ◌++◌, refl, arith, ap}
use Rattle.std.proofs.lemmas.List.Sums.{sum_by-append}
use Rattle.std.specs.List.{sum_by}
use Rattle.mac_loop.specs.Leaf.{leaf}
use Rattle.mac_loop.proofs.LedgerLemmas.{joins}
use Rattle.mac_loop.proofs.ledger.Ledger.join.Goals as goal

pub join_seat-requires : goal.join_seat-requires
join_seat-requires g c =
    let a = c.args.book.now.seat.me.0 in
    let b = c.args.other.seat.me.0 in (
      c.requires.0,
      c.requires.1,
      c.args.other.none,
      omega (arith, c.args.self.now.word),
      λ s was at apart at'. joins c.args.self.now.leaves.shared.key s.views c.args.book.now.seat.id a c.args.other.seat.id b
          (leaf (a.books + b.books) (a.entered ++ b.entered) (a.gone ++ b.gone) a.there)
          (λ none. absurd (omega (arith, none, c.args.book.now.some))) refl
          (λ w. sum_by-append w a.entered b.entered)
          (λ w. omega (arith, sum_by-append w a.entered b.entered, sum_by-append w a.gone b.gone, ap (sum_by w) c.args.other.nothing))
          at apart at' was,
    )
