use Rattle.std.proofs.Common.{sym, rules}
use Rattle.mac_token.specs.Read.{parts_of, token_of}
use Rattle.mac_token.proofs.Within.{token_or_limit-Ok, token_or_limit-Err}
use Rattle.mac_token.proofs.view.TokenView.of.Goals as goal

pub returns-then-not-is_within : goal.returns-then-not-is_within
unfolding token_of
returns-then-not-is_within c =
    rw (← c.in-Some.ensures, ← c.if-has_vid.ensures, ← c.if-has_location.ensures) (sym (token_or_limit-Err (parts_of c.in-Some.raw) (search rules)))

pub returns : goal.returns
unfolding token_of
returns c =
    rw (← c.in-Some.ensures, ← c.if-has_vid.ensures, ← c.if-has_location.ensures) (sym (token_or_limit-Ok (parts_of c.in-Some.raw) (search rules)))
