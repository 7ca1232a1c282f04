use Rattle.std.proofs.Common.{[], ◌∷◌, ◌++◌, refl, arith, ap, ◌∙◌}
use Rattle.std.proofs.lemmas.List.{append-nil}
use Rattle.atomic_table.specs.Table.{keeps}
use Rattle.mac_loop.specs.Leaf.{leaf}
use Rattle.mac_loop.proofs.LedgerLemmas.{cuts, enters}
use Rattle.mac_loop.proofs.ledger.Ledger.enter.Goals as goal

pub compare_exchange_with-requires : goal.compare_exchange_with-requires
compare_exchange_with-requires g c =
    let a = c.args.book.now.seat.me.0 in
    let entry = c.args.entry.now in (
      c.requires,
      omega (arith, c.args.self.now.word),
      λ s was homes at small. (
        leaf a.books (a.entered ++ entry ∷ []) a.gone (a.there ++ entry ∷ []),
        keeps,
        tt,
        enters c.args.self.now.leaves.shared.key s.views c.args.book.now.seat.id a entry c.args.book.now.some at was,
        ap (λ l. (leaf a.books (a.entered ++ entry ∷ []) a.gone (a.there ++ entry ∷ []), l)) c.args.book.now.none,
      ),
    )

pub split_seat-seat-requires : goal.split_seat-seat-requires
split_seat-seat-requires g c =
    let seat = c.compare_exchange_with.new.seat in
    let a = seat.me.0 in
    let told = c.compare_exchange_with.ensures in (
      told.0 ∙ c.requires,
      omega (arith, c.args.self.now.word),
      λ s was at. cuts c.args.self.now.leaves.shared.key s.views seat.id a (leaf a.books a.entered a.gone []) (leaf 0 [] [] a.there)
          (λ none. absurd (omega (arith, none, c.args.book.now.some, ap (λ me. me.0.books) told.2))) (λ none. (refl, refl))
          (omega arith) (append-nil a.entered) (append-nil a.gone) refl at was,
    )
