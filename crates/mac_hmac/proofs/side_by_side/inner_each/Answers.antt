use Rattle.std.proofs.Common.{◌<◌, ℕ, List, [], ◌∷◌, slice_index_or, arith}
use Rattle.sha256x8.specs.Begun.{IsBegun}
use Rattle.sha256x8.proofs.LaneWise.{below_eight}
use Rattle.mac_hmac.specs.Hmac.{inner_block}
use Rattle.mac_hmac.proofs.BegunLemmas.{begun-at}
use Rattle.mac_hmac.proofs.side_by_side.inner_each.Goals as goal

pub returns : goal.returns
returns c =
    let keys = c.args.keys.now in
    let hashes = c.inner.result ∷ c.inner-2.result ∷ c.inner-3.result ∷ c.inner-4.result ∷ c.inner-5.result
    ∷ c.inner-6.result ∷ c.inner-7.result ∷ c.inner-8.result ∷ [] in
    let at = λ (k : ℕ) (lt : k < 8) (other hash : List ℕ).
    begun-at inner_block keys k other hash (omega (arith, c.type_inv.keys)) in
    below_eight (λ (j : ℕ).
    IsBegun (slice_index_or hashes j []) (inner_block (slice_index_or keys j [])))
    (at 0 (omega arith) _ _ c.inner.ensures) (at 1 (omega arith) _ _ c.inner-2.ensures)
    (at 2 (omega arith) _ _ c.inner-3.ensures) (at 3 (omega arith) _ _ c.inner-4.ensures)
    (at 4 (omega arith) _ _ c.inner-5.ensures) (at 5 (omega arith) _ _ c.inner-6.ensures)
    (at 6 (omega arith) _ _ c.inner-7.ensures) (at 7 (omega arith) _ _ c.inner-8.ensures)
