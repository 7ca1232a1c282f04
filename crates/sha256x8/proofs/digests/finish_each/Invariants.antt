use Rattle.std.proofs.Common.{◌≡◌, ℕ, ◌<◌, List, length}
use Rattle.sha2.specs.Sha256.{compress, initial_hash_256}
use Rattle.sha256x8.specs.Lanes.{lane_state, text_at}
use Rattle.sha256x8.proofs.HashAfter.{hashed}
use Rattle.sha256x8.proofs.digests.finish_each.Given as goal

abbrev pub invariant-blocks-2 : goal.invariant-blocks-2
invariant-blocks-2 l = (j : ℕ) → j < 8 → (block : List ℕ) → length block ≡ 64
    → lane_state j l.fn.state ≡ compress initial_hash_256 block
    → lane_state j l.state ≡ hashed block (text_at l.texts j) l.index
