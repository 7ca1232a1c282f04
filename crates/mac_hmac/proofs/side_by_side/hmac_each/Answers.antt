use Rattle.std.proofs.Common.{ℕ, ◌++◌, Bor, List, [], map, slice_index_or, ◌∙◌}
use Rattle.sha2.specs.Sha256.{sha256}
use Rattle.mac_hmac.specs.Hmac.{hmac, inner_block, outer_block}
use Rattle.mac_hmac.proofs.side_by_side.hmac_each.Goals as goal

pub returns-in-None : goal.returns-in-None
unfolding hmac inner_block outer_block
returns-in-None c = λ j lt.
    let text = slice_index_or (map (λ (text : Bor (List ℕ)). text.now) c.args.texts.now) j [] in
    c.nested_digest_each.ensures j lt
    ∙ (λ i. sha256 (c.padded_each.ensures j lt i
    ++ sha256 (c.padded_each-in-None.ensures j lt i ++ text)))
