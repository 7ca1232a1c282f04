use Rattle.std.proofs.Common.{List, ℕ, subst, sym}
use Rattle.mac_keys.specs.Change.{DropsKey, HasTwo}
use Rattle.mac_keys.proofs.ChangeLemmas.{drops_first, two_swapped}
use Rattle.mac_keys.proofs.change.drop_upper.Goals as goal

pub take_lower-requires : goal.take_lower-requires
take_lower-requires c =
    subst (λ (between : List ℕ). HasTwo between c.args.name.now) (sym c.as_slice.ensures.value)
    (two_swapped c.args.name.now c.args.text.now c.in_ok-between.between.items c.in_ok-between.ensures.table)

pub returns-clause-table : goal.returns-clause-table
returns-clause-table c =
    let name = c.args.name.now in
    let changed = c.in_ok-take_lower.field-0.items in
    drops_first name c.args.text.now c.in_ok-between.between.items changed c.in_ok-between.ensures.table
    (subst (λ (between : List ℕ). DropsKey name between changed) c.as_slice.ensures.value c.in_ok-take_lower.ensures.table)
