use Rattle.std.proofs.Common.{◌≡◌, ℕ, List, ◌++◌, ap, ◌∙◌}
use Rattle.sha2.specs.Sha256.{compress, initial_hash_256}
use Rattle.sha256x8.specs.Begun.{IsBegun, listed}
use Rattle.sha256x8.specs.Lanes.{text_at}
use Rattle.sha256x8.proofs.HashAfter.{listed_compress}
use Rattle.sha256x8.proofs.begun.nested_digest_from_each.Goals as goal

-- what a lane holds where its hash value is that after a block
lane_is : (lane hash block : List ℕ) → lane ≡ listed hash → IsBegun hash block
    → lane ≡ compress initial_hash_256 block
lane_is lane hash block e begun = e ∙ ap listed begun.is ∙ listed_compress initial_hash_256 block

pub returns : goal.returns
returns c = λ j lt outer inner outer_begun inner_begun.
    let outer_lane = lane_is _ _ outer (c.lanes_of-2.ensures j lt) outer_begun in
    let inner_lane = lane_is _ _ inner (c.lanes_of.ensures j lt) inner_begun in
    c.close_each.ensures j lt outer (inner ++ text_at c.args.texts.now j) outer_begun.whole outer_lane
    (c.finish_each-inner.ensures j lt inner inner_begun.whole inner_lane)
