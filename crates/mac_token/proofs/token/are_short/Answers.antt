use Rattle.std.proofs.Common.{rules, ◌≤◌, length}
use Rattle.std.proofs.lemmas.List.Elements.{All-map}
use Rattle.mac_token.proofs.Lists.{All_of_map}
use Rattle.mac_token.specs.declared.limits.TheConstants.{CAVEAT_MAX}
use Rattle.mac_token.proofs.token.are_short.Goals as goal

pub returns : goal.returns
returns c = (
  λ yes. All-map (λ caveat. length caveat ≤ CAVEAT_MAX) (λ buffer. buffer.items) c.args.caveats.now (search rules),
  λ each. let short = All_of_map (λ caveat. length caveat ≤ CAVEAT_MAX) (λ buffer. buffer.items) c.args.caveats.now each in search rules,
)
