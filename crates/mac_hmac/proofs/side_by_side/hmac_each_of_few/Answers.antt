use Rattle.std.proofs.Common.{◌++◌, ◌∙◌, slice_index}
use Rattle.sha2.specs.Sha256.{sha256}
use Rattle.sha256x8.specs.Lanes.{text_at}
use Rattle.mac_hmac.specs.Hmac.{hmac, inner_block, outer_block}
use Rattle.mac_hmac.proofs.side_by_side.hmac_each_of_few.Goals as goal

pub returns : goal.returns
unfolding hmac inner_block outer_block
returns c = λ j lt.
    let text = text_at c.args.texts.now j in
    let low = c.requires j lt in
    let k = slice_index c.args.told.now.which j in
    c.paired_digest_each.ensures j lt
    ∙ (λ i. sha256 (c.padded_few.ensures k low i
    ++ sha256 (c.padded_few-2.ensures k low i ++ text)))
