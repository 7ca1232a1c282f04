use Rattle.std.proofs.Common.{◌≡◌, ℕ, ◌+◌, ◌*◌, [], ◌∷◌, slice_index, refl}
use Rattle.sha2.specs.Sha256.{word_at}
use Rattle.sha2.proofs.Schedule256.{IsWindow_first}
use Rattle.sha256x8.proofs.LaneWise.{below_eight, below_sixteen}
use Rattle.sha256x8.proofs.block.words_of_one.Goals as goal

pub returns : goal.returns
returns c =
    let block = c.args.block.now in
    let w = c.load_be.result ∷ c.load_be-2.result ∷ c.load_be-3.result ∷ c.load_be-4.result
    ∷ c.load_be-5.result ∷ c.load_be-6.result ∷ c.load_be-7.result ∷ c.load_be-8.result
    ∷ c.load_be-9.result ∷ c.load_be-10.result ∷ c.load_be-11.result ∷ c.load_be-12.result
    ∷ c.load_be-13.result ∷ c.load_be-14.result ∷ c.load_be-15.result ∷ c.load_be-16.result ∷ [] in
    let P = λ (k : ℕ). slice_index w k ≡ word_at block (4 * k) in
    IsWindow_first block w refl
    (below_sixteen P
    (below_eight P c.load_be.ensures c.load_be-2.ensures c.load_be-3.ensures c.load_be-4.ensures
    c.load_be-5.ensures c.load_be-6.ensures c.load_be-7.ensures c.load_be-8.ensures)
    (below_eight (λ (k : ℕ). P (8 + k)) c.load_be-9.ensures c.load_be-10.ensures
    c.load_be-11.ensures c.load_be-12.ensures c.load_be-13.ensures c.load_be-14.ensures
    c.load_be-15.ensures c.load_be-16.ensures))
