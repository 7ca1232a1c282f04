use Rattle.std.proofs.Common.{List, ℕ, subst, sym}
use Rattle.mac_hmac.specs.Chain.{root_of}
use Rattle.mac_keys.specs.Change.{HasTwo, SwapsKeys}
use Rattle.mac_keys.proofs.ChangeLemmas.{adds_lower, two_added}
use Rattle.mac_keys.proofs.change.add_below.Goals as goal

pub raise_line-requires : goal.raise_line-requires
raise_line-requires c =
    let (secret, key) = c.requires in
    subst (λ (between : List ℕ). HasTwo between c.args.name.now) (sym c.as_slice.ensures.value)
    (two_added c.args.name.now (root_of secret) c.args.text.now c.in_ok-between.between.items (c.in_ok-between.ensures.table secret key))

pub returns-clause-table : goal.returns-clause-table
returns-clause-table c = λ secret key.
    let name = c.args.name.now in
    let changed = c.in_ok-raise_line.field-0.items in
    adds_lower name (root_of secret) c.args.text.now c.in_ok-between.between.items changed (c.in_ok-between.ensures.table secret key)
    (subst (λ (between : List ℕ). SwapsKeys name between changed) c.as_slice.ensures.value c.in_ok-raise_line.ensures.table)
