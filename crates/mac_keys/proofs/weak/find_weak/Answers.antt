use Rattle.std.proofs.Common.{◌==◌, rules, tests}
use Rattle.std.proofs.lemmas.Iterator.Search.{position_from_yields_List}
use Rattle.std.proofs.lemmas.Iterator.Splits.{YieldsList-from_slice_split}
use Rattle.mac_keys.specs.Weak.{is_weak}
use Rattle.mac_keys.proofs.weak.find_weak.Goals as goal

pub returns : goal.returns
returns c =
    position_from_yields_List is_weak _ _ c.position.result c.position.ensures.ran
    (YieldsList-from_slice_split _ (λ b. b == 10) c.args.text.now c.split.ensures.rest c.split.ensures.done c.split.ensures.closure (λ x b q k. search (rules, tests)))
    (λ x b q k. search (rules, tests))
