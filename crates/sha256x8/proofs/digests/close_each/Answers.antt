use Rattle.std.proofs.Common.{◌≡◌, ℕ, List, subst, sym, ap, ◌∙◌, arith}
use Rattle.sha2.specs.Sha256.{IsWindow, digest_bytes, schedule, sha256}
use Rattle.sha2.proofs.Facts256.{length-sha256}
use Rattle.sha256x8.specs.Lanes.{AreWords, lane_state, lane_words}
use Rattle.sha256x8.specs.Padded.{padded_text}
use Rattle.sha256x8.proofs.HashAfter.{AreWords_final, hashed, hashed_first, hashed_one_more}
use Rattle.sha256x8.proofs.PaddedBlocks.{length-padded_text}
use Rattle.sha256x8.proofs.digests.close_each.Goals as goal

pub returns : goal.returns
unfolding sha256
returns c = λ j lt block message whole begun inner.
    let digest = sha256 message in
    let is_digest : digest_bytes (lane_state j c.args.inner.now) 8 ≡ digest =
    ap (λ (h : List ℕ). digest_bytes h 8) inner in
    let words = subst (λ (h : List ℕ). AreWords h) (sym inner) (AreWords_final message) in
    let window = subst (λ (d : List ℕ).
    IsWindow (lane_words j c.digest_words.result) (schedule (padded_text d) 48) 16) is_digest
    (c.digest_words.ensures j lt words) in
    let first : lane_state j c.args.state ≡ hashed block digest 0 =
    begun ∙ sym (hashed_first block digest whole) in
    let one = hashed_one_more block digest (lane_state j c.args.state) whole
    (omega (arith, length-padded_text digest, length-sha256 message)) first in
    c.digests_of.ensures j lt
    ∙ ap (λ (h : List ℕ). digest_bytes h 8)
    (c.compress.ensures j lt (padded_text digest) window ∙ one)
