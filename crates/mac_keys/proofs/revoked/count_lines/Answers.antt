use Rattle.std.proofs.Common.{rules, tests, ◌==◌}
use Rattle.std.specs.Prelude.{not}
use Rattle.std.proofs.lemmas.Iterator.Consumers.{YieldsList-at, YieldsList-from_filter, count_from_yields_List}
use Rattle.std.proofs.lemmas.Iterator.Splits.{YieldsList-from_slice_split}
use Rattle.mac_keys.specs.Line.{is_ignored}
use Rattle.mac_keys.proofs.revoked.count_lines.Goals as goal

pub returns : goal.returns
returns c =
    count_from_yields_List c.filter.result _ c.count.ensures.ran
    (YieldsList-from_filter _ (λ line. not (is_ignored line))
    (YieldsList-at c.filter.ensures.source
    (YieldsList-from_slice_split _ (λ b. b == 10) c.args.text.now c.split.ensures.rest c.split.ensures.done c.split.ensures.closure (λ x b q k. search (rules, tests))))
    c.filter.ensures.closure (λ x b q k. search (rules, tests)))
