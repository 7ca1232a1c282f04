use Rattle.std.proofs.Common.{◌∙◌}
use Rattle.mac_calls.specs.Counted.{is_long}
use Rattle.mac_calls.proofs.ListLemmas.{any_mapped}
use Rattle.mac_calls.proofs.counted.any_is_long.Goals as goal

pub returns : goal.returns
returns c = c.has_long.ensures ∙ any_mapped (λ f. f.items) is_long c.args.facts.now
