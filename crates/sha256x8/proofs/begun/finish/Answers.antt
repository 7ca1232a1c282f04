use Rattle.std.proofs.Common.{◌≡◌, ◌<◌, ◌*◌, ℕ, List, length, sym, ap, ◌∙◌, arith}
use Rattle.std.proofs.lemmas.Bool.{lt-ltb}
use Rattle.sha2.specs.Sha256.{compress}
use Rattle.sha256x8.specs.Padded.{after_block, padded_text}
use Rattle.sha256x8.proofs.HashAfter.{hashed_first, hashed_more, hashed_all}
use Rattle.sha256x8.proofs.begun.finish.Goals as goal

pub taking-init : goal.taking-init
taking-init c = λ block begun. begun.is ∙ sym (hashed_first block _ begun.whole)

pub taking-preserved : goal.taking-preserved
unfolding after_block
taking-preserved c = λ block begun.
    let text = c.args.text.now in
    let hash = c.taking.hash in
    let within : 64 * c.taking.index < length (padded_text text) =
    omega (arith, c.block_count-index-end.ensures) in
    let test = lt-ltb (64 * c.taking.index) (length (padded_text text)) within in
    let taken : c.compress_one-hash.result ≡ after_block hash text c.taking.index =
    c.compress_one-hash.ensures
    ∙ rw test (ap (compress hash) (c.padded_block.ensures within)) in
    taken
    ∙ ap (λ (h : List ℕ). after_block h text c.taking.index) (c.taking.invariant block begun)
    ∙ hashed_more block text c.taking.index begun.whole

pub returns : goal.returns
returns c = λ block begun.
    c.taking.invariant block begun
    ∙ hashed_all block c.args.text.now c.taking.index begun.whole
    (omega (arith, c.block_count-index-end.ensures))
