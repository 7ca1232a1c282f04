use Rattle.std.proofs.Common.{◌∙◌, ◌*◌, arith, refl, slice_index_or, []}
use Rattle.std.proofs.lemmas.List.{length-set}
use Rattle.sha2.specs.Sha256.{word_at}
use Rattle.sha2.proofs.Schedule256.{IsWindow_first}
use Rattle.sha256x8.specs.Lanes.{lane_words}
use Rattle.sha256x8.proofs.LaneWise.{lane_words_at, stored_row}
use Rattle.sha256x8.proofs.block.words_of.Goals as goal

pub load-preserved : goal.load-preserved
load-preserved c = (
  length-set c.load.words c.load.i c.gather.result ∙ c.load.invariant.0,
  λ j k lane_lt lt. stored_row c.load.words c.gather.result j c.load.i k
      (λ k. word_at (slice_index_or c.args.blocks.now j []) (4 * k)) (omega arith) lt
      (c.load.invariant.1 j k lane_lt) (c.gather.ensures j lane_lt),
)

pub returns : goal.returns
returns c = λ j lt.
    IsWindow_first (slice_index_or c.args.blocks.now j []) (lane_words j c.load.words) refl
    (λ k below. lane_words_at c.load.words j k below
    ∙ c.load.invariant.1 j k lt (omega arith))
