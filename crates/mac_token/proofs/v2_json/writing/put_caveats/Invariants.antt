use Rattle.std.proofs.Common.{◌≡◌, ◌++◌}
use Rattle.std.specs.List.{flat_map}
use Rattle.mac_token.specs.JsonMembers.{caveat_tokens}
use Rattle.mac_token.proofs.v2_json.writing.put_caveats.Given as goal

-- the tokens so far, and those of the caveats that are left, are all of them
abbrev pub invariant-loop-caveat : goal.invariant-loop-caveat
invariant-loop-caveat l = (l.out.tokens ++ flat_map caveat_tokens l.caveat-iterator ≡ l.fn.out.tokens ++ flat_map caveat_tokens l.fn.caveats) × (l.out.before ≡ l.fn.out.before)
