use Rattle.std.proofs.Common.{◌≤◌, ◌-◌, ◌++◌, string_bytes, length, refl, arith, rules}
use Rattle.mac_token.specs.RawToken.{token_parts, byte_lists}
use Rattle.mac_token.specs.Limits.{PartsFit, AreShort}
use Rattle.mac_token.specs.declared.limits.TheConstants.{CAVEATS_MAX}
use Rattle.mac_token.proofs.Lists.{length-byte_lists}
use Rattle.mac_token.proofs.Within.{token_or_limit-Ok, token_or_limit-Err, fit_more, fit_few, fit_short}
use Rattle.mac_token.proofs.token.Token.push.Goals.{then-caveats-len-via-then-caveats-len, then-caveats-len-via-else-caveats-len+then-not-are_short}
use Rattle.mac_token.proofs.token.Token.push.Goals as goal

pub returns-then-caveats-len : goal.returns-then-caveats-len
returns-then-caveats-len c =
    let inside = c.self.inside in
    let location = string_bytes inside.location in
    let identifier = inside.identifier.items in
    let caveats = byte_lists inside.caveats.items in
    let added = byte_lists c.args.caveats.now in
    let fails : ¬ (PartsFit location identifier (caveats ++ added)) =
    elim c.then-caveats-len.branch [
      | then-caveats-len-via-then-caveats-len w ↦ λ fit.
          let few = fit_few location identifier caveats added fit in
          omega (arith, few, w.if-caveats-len.true, c.len.ensures, inside.caveats.ok.0, length-byte_lists inside.caveats.items, length-byte_lists c.args.caveats.now)
      | then-caveats-len-via-else-caveats-len+then-not-are_short w ↦ λ fit. let short = fit_short location identifier caveats added fit in search rules
    ] in
    let parts = token_parts location identifier (caveats ++ added) c.args.sig in
    (rw (← c.self.view_is) (token_or_limit-Err parts fails), refl)

pub invariant_of-result : goal.invariant_of-result
invariant_of-result c =
    let inside = c.self.inside in
    let caveats = byte_lists inside.caveats.items in
    let added = byte_lists c.args.caveats.now in
    let few : length added ≤ CAVEATS_MAX - length caveats = omega (arith, c.if-caveats-len.false, c.len.ensures, inside.caveats.ok.0, length-byte_lists inside.caveats.items, length-byte_lists c.args.caveats.now) in
    let short : AreShort added = search rules in
    rw c.in-Ok.ensures.ok (fit_more (string_bytes inside.location) inside.identifier.items caveats added c.self.invariant few short)

pub returns-in-Ok : goal.returns-in-Ok
returns-in-Ok c =
    let inside = c.self.inside in
    let caveats = byte_lists inside.caveats.items in
    let added = byte_lists c.args.caveats.now in
    let few : length added ≤ CAVEATS_MAX - length caveats = omega (arith, c.if-caveats-len.false, c.len.ensures, inside.caveats.ok.0, length-byte_lists inside.caveats.items, length-byte_lists c.args.caveats.now) in
    let short : AreShort added = search rules in
    let fit = fit_more (string_bytes inside.location) inside.identifier.items caveats added c.self.invariant few short in
    rw (← c.self.view_is, c.in-Ok.ensures.ok) (token_or_limit-Ok (token_parts (string_bytes inside.location) inside.identifier.items (caveats ++ added) c.args.sig) fit)
