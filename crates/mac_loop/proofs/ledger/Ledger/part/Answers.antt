use Rattle.std.proofs.Common.{◌-◌, [], arith}
use Rattle.std.proofs.lemmas.List.{append-nil}
use Rattle.mac_loop.specs.Leaf.{leaf}
use Rattle.mac_loop.proofs.LedgerLemmas.{cuts}
use Rattle.mac_loop.proofs.ledger.Ledger.part.Goals as goal

pub split_seat-seat-requires : goal.split_seat-seat-requires
split_seat-seat-requires g c =
    let a = c.args.book.now.seat.me.0 in (
      c.requires.of,
      omega (arith, c.args.self.now.word),
      λ s was at. cuts c.args.self.now.leaves.shared.key s.views c.args.book.now.seat.id a (leaf (a.books - 1) a.entered a.gone a.there) (leaf 1 [] [] [])
          (λ none. absurd (omega (arith, none, c.requires.more))) (λ none. absurd (omega (arith, none)))
          (omega (arith, c.requires.more)) (append-nil a.entered) (append-nil a.gone) (append-nil a.there) at was,
    )
