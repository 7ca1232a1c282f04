use Rattle.std.proofs.Common.{◌++◌, ◌∙◌, ap, sym}
use Rattle.std.proofs.lemmas.List.{append-nil}
use Rattle.mac_keys.specs.Names.{told}
use Rattle.mac_keys.proofs.Names.{counted, counted-names}
use Rattle.mac_keys.proofs.key_map.KeyMap.names.Goals as goal

pub returns : goal.returns
returns c =
    let gives = c.into_iter-name-iterator.ensures.into_iter_gives in
    let whole = told c.loop-name.names.items in
    sym (append-nil whole)
    ∙ ap (λ left. whole ++ counted left) (sym c.in-None.ensures.steps.0)
    ∙ c.loop-name.invariant
    ∙ ap counted gives.0
    ∙ counted-names c.self.inside.keys.entries c.args.self.now gives.5 c.self.view_is
