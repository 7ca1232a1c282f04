use Rattle.std.proofs.Common.{◌≡◌, ℕ, ◌+◌, ◌*◌, ◌<◌, List, [], ◌∷◌, replicate, slice_index, slice_index_or, refl, sym, arith}
use Rattle.std.proofs.lemmas.Nat.{from_be_bytes-to_be_bytes_4}
use Rattle.std.proofs.lemmas.Simd.{get_or-replicate}
use Rattle.sha2.specs.Sha256.{digest_bytes, word_at}
use Rattle.sha2.proofs.Schedule256.{IsWindow_first}
use Rattle.sha256x8.specs.Lanes.{lane_state, lane_words}
use Rattle.sha256x8.specs.Padded.{padded_text}
use Rattle.sha256x8.proofs.LaneWise.{below_eight, below_sixteen}
use Rattle.sha256x8.proofs.state.digest_words.Goals as goal

pub returns : goal.returns
unfolding padded_text digest_bytes
returns c = λ j lt words.
    let state = c.args.state.now in
    let h = lane_state j state in
    let block = padded_text (digest_bytes h 8) in
    let zeros : List ℕ = replicate 8 0 in
    let w = slice_index_or state 0 [] ∷ slice_index_or state 1 [] ∷ slice_index_or state 2 [] ∷
    slice_index_or state 3 []
    ∷ slice_index_or state 4 [] ∷ slice_index_or state 5 [] ∷ slice_index_or state 6 [] ∷
    slice_index_or state 7 []
    ∷ replicate 8 0x80000000 ∷ zeros ∷ zeros ∷ zeros ∷ zeros ∷ zeros ∷ zeros ∷ replicate 8 768 ∷ []
    in
    let number = λ (x : ℕ). get_or-replicate 8 j x 0 lt in
    let word = λ (k : ℕ) (low : k < 8).
    sym (from_be_bytes-to_be_bytes_4 (slice_index h k) (words k low)) in
    let low = below_eight (λ (k : ℕ). slice_index (lane_words j w) k ≡ word_at block (4 * k))
    (word 0 (omega arith)) (word 1 (omega arith)) (word 2 (omega arith)) (word 3 (omega arith))
    (word 4 (omega arith)) (word 5 (omega arith)) (word 6 (omega arith)) (word 7 (omega arith)) in
    let high = below_eight (λ (k : ℕ). slice_index (lane_words j w) (8 + k) ≡ word_at block (4 * (8 + k)))
    (number 0x80000000) (number 0) (number 0) (number 0) (number 0) (number 0) (number 0)
    (number 768) in
    IsWindow_first block (lane_words j w) refl
    (below_sixteen (λ (k : ℕ). slice_index (lane_words j w) k ≡ word_at block (4 * k)) low high)
