use Rattle.std.proofs.Common.{[], rules}
use Rattle.mac_token.specs.RawToken.{token_parts}
use Rattle.mac_token.proofs.Within.{token_or_limit-Err}
use Rattle.mac_token.proofs.draft.Draft.begin.Goals as goal

pub returns-then-not-is_within : goal.returns-then-not-is_within
returns-then-not-is_within c =
    token_or_limit-Err (token_parts c.args.location.now c.args.identifier.now [] []) (search rules)
