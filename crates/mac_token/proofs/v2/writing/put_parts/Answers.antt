use Rattle.std.proofs.Common.{ℕ, List, ◌++◌, map, ap, ◌∙◌, rules}
use Rattle.mac_token.specs.Draft.{v2_head}
use Rattle.mac_token.specs.RawToken.{token_parts}
use Rattle.mac_token.specs.Read.{bare_of, or_malformed, token_of_read}
use Rattle.mac_token.proofs.V2Writing.{v2_written}
use Rattle.mac_token.proofs.ViewLemmas.{seen_again}
use Rattle.mac_token.proofs.v2.writing.put_parts.Goals as goal

pub returns-clause-written : goal.returns-clause-written
returns-clause-written c =
    let t = token_parts c.args.location.now c.args.identifier.now (map (λ x. x.id) c.args.caveats.now) c.args.sig in
    v2_written t _ _ _ _ c.requires
    (c.in_ok-put_head.ensures ∙ ap (λ (l : List ℕ). c.args.out.now.items ++ v2_head l c.args.identifier.now) c.as_bytes.ensures.value)
    c.in_ok-put_ids.ensures c.in_ok-put_signature.ensures

pub returns-clause-seen : goal.returns-clause-seen
returns-clause-seen c =
    let t = token_parts c.args.location.now c.args.identifier.now (map (λ x. x.id) c.args.caveats.now) c.args.sig in
    ap (λ (bytes : List ℕ). token_of_read (or_malformed (bare_of bytes))) (returns-clause-written c) ∙ seen_again t (search rules) (search rules)
