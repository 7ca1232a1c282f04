use Rattle.std.proofs.Common.{◌≡◌, ℕ, [], ◌∷◌, slice_index_or}
use Rattle.sha2.specs.Sha256.{digest_bytes}
use Rattle.sha256x8.specs.Lanes.{lane_state}
use Rattle.sha256x8.proofs.LaneWise.{below_eight}
use Rattle.sha256x8.proofs.state.digests_of.Goals as goal

pub returns : goal.returns
returns c =
    let digests = c.digest_of_lane.result ∷ c.digest_of_lane-2.result ∷ c.digest_of_lane-3.result ∷
    c.digest_of_lane-4.result ∷ c.digest_of_lane-5.result ∷ c.digest_of_lane-6.result ∷
    c.digest_of_lane-7.result ∷ c.digest_of_lane-8.result ∷ [] in
    below_eight (λ (k : ℕ).
    slice_index_or digests k [] ≡ digest_bytes (lane_state k c.args.state.now) 8)
    c.digest_of_lane.ensures c.digest_of_lane-2.ensures c.digest_of_lane-3.ensures
    c.digest_of_lane-4.ensures c.digest_of_lane-5.ensures c.digest_of_lane-6.ensures
    c.digest_of_lane-7.ensures c.digest_of_lane-8.ensures
