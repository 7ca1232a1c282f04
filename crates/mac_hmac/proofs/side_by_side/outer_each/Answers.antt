use Rattle.std.proofs.Common.{◌<◌, ℕ, List, [], ◌∷◌, slice_index_or, arith}
use Rattle.sha256x8.specs.Begun.{IsBegun}
use Rattle.sha256x8.proofs.LaneWise.{below_eight}
use Rattle.mac_hmac.specs.Hmac.{outer_block}
use Rattle.mac_hmac.proofs.BegunLemmas.{begun-at}
use Rattle.mac_hmac.proofs.side_by_side.outer_each.Goals as goal

pub returns : goal.returns
returns c =
    let keys = c.args.keys.now in
    let hashes = c.outer.result ∷ c.outer-2.result ∷ c.outer-3.result ∷ c.outer-4.result ∷ c.outer-5.result
    ∷ c.outer-6.result ∷ c.outer-7.result ∷ c.outer-8.result ∷ [] in
    let at = λ (k : ℕ) (lt : k < 8) (other hash : List ℕ).
    begun-at outer_block keys k other hash (omega (arith, c.type_inv.keys)) in
    below_eight (λ (j : ℕ).
    IsBegun (slice_index_or hashes j []) (outer_block (slice_index_or keys j [])))
    (at 0 (omega arith) _ _ c.outer.ensures) (at 1 (omega arith) _ _ c.outer-2.ensures)
    (at 2 (omega arith) _ _ c.outer-3.ensures) (at 3 (omega arith) _ _ c.outer-4.ensures)
    (at 4 (omega arith) _ _ c.outer-5.ensures) (at 5 (omega arith) _ _ c.outer-6.ensures)
    (at 6 (omega arith) _ _ c.outer-7.ensures) (at 7 (omega arith) _ _ c.outer-8.ensures)
