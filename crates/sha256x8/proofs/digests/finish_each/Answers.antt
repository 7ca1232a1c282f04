use Rattle.std.proofs.Common.{ℕ, List, sym, ap, ◌∙◌, arith}
use Rattle.sha256x8.specs.Lanes.{text_at}
use Rattle.sha256x8.specs.Padded.{after_block}
use Rattle.sha256x8.proofs.HashAfter.{hashed_first, hashed_more, hashed_all}
use Rattle.sha256x8.proofs.digests.finish_each.Goals as goal

pub blocks-2-init : goal.blocks-2-init
blocks-2-init c = λ j lt block whole first. first ∙ sym (hashed_first block _ whole)

pub blocks-2-preserved : goal.blocks-2-preserved
blocks-2-preserved c = λ j lt block whole first.
    let text = text_at c.args.texts.now j in
    c.take_block.ensures j lt
    ∙ ap (λ (h : List ℕ). after_block h text c.blocks-2.index)
    (c.blocks-2.invariant j lt block whole first)
    ∙ hashed_more block text c.blocks-2.index whole

pub returns : goal.returns
returns c = λ j lt block whole first.
    let text = text_at c.args.texts.now j in
    c.blocks-2.invariant j lt block whole first
    ∙ hashed_all block text c.blocks-2.index whole
    (omega (arith, c.greatest_count-index-end.ensures j lt))
