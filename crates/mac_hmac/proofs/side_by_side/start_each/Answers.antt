use Rattle.std.proofs.Common.{[], ◌∙◌, slice_index_or}
use Rattle.mac_hmac.specs.Hmac.{hmac, inner_block, outer_block}
use Rattle.mac_hmac.proofs.side_by_side.start_each.Goals as goal

pub returns : goal.returns
unfolding hmac
returns c = λ j lt.
    let key = slice_index_or c.args.keys.now j [] in
    c.signatures_of.ensures j lt
    ∙ c.nested_digest_from_each.ensures j lt (outer_block key) (inner_block key)
    (c.outer_each.ensures j lt) (c.inner_each.ensures j lt)
