use Rattle.std.proofs.Common.{rules, string_bytes, sym}
use Rattle.mac_token.specs.RawToken.{token_parts, byte_lists}
use Rattle.mac_token.proofs.Within.{token_or_limit-Ok, token_or_limit-Err}
use Rattle.mac_token.proofs.token.Token.new.Goals as goal

pub returns-then-not-is_within-clause-answer : goal.returns-then-not-is_within-clause-answer
returns-then-not-is_within-clause-answer c =
    let parts = token_parts (string_bytes c.args.location) c.args.identifier.items (byte_lists c.args.caveats.items) c.args.sig in
    sym (token_or_limit-Err parts (search rules))

pub returns-clause-answer : goal.returns-clause-answer
returns-clause-answer c =
    let parts = token_parts (string_bytes c.args.location) c.args.identifier.items (byte_lists c.args.caveats.items) c.args.sig in
    sym (token_or_limit-Ok parts (search rules))
