use Rattle.std.proofs.Common.{◌≡◌, ◌<◌, ◌+◌, ℕ, List, ◌++◌, [], ◌∷◌, length, slice_index, slice_index_or, arith, refl, subst, ap, ◌∙◌}
use Rattle.sha2.specs.Sha256.{compress, initial_hash_256}
use Rattle.sha256x8.specs.Lanes.{lane_state, text_at}
use Rattle.sha256x8.proofs.LaneWise.{below_four}
use Rattle.sha256x8.proofs.digests.paired_digest_each.Goals as goal

-- the blocks of four pairs: the outer ones, and behind them the inner ones
abbrev both : List (List ℕ) → List (List ℕ) → List (List ℕ)
both outer inner =
    slice_index_or outer 0 [] ∷ slice_index_or outer 1 [] ∷ slice_index_or outer 2 []
    ∷ slice_index_or outer 3 [] ∷ slice_index_or inner 0 [] ∷ slice_index_or inner 1 []
    ∷ slice_index_or inner 2 [] ∷ slice_index_or inner 3 [] ∷ []

outer_at : (outer inner : List (List ℕ)) (k : ℕ) → k < 4
    → slice_index_or (both outer inner) k [] ≡ slice_index_or outer k []
outer_at outer inner =
    below_four (λ (k : ℕ). slice_index_or (both outer inner) k [] ≡ slice_index_or outer k [])
    refl refl refl refl

inner_at : (outer inner : List (List ℕ)) (k : ℕ) → k < 4
    → slice_index_or (both outer inner) (4 + k) [] ≡ slice_index_or inner k []
inner_at outer inner =
    below_four (λ (k : ℕ). slice_index_or (both outer inner) (4 + k) [] ≡ slice_index_or inner k [])
    refl refl refl refl

pub returns : goal.returns
returns c = λ j lt.
    let outers = c.args.outer_blocks.now in
    let inners = c.args.inner_blocks.now in
    let p = slice_index c.args.pairs.now j in
    let low : p < 4 = c.requires j lt in
    let outer = slice_index_or outers p [] in
    let inner = slice_index_or inners p [] in
    let is_outer = outer_at outers inners p low in
    let is_inner = inner_at outers inners p low in
    let outer_whole : length outer ≡ 64 =
    subst (λ (b : List ℕ). length b ≡ 64) is_outer (c.are_whole.ensures p (omega (arith, low))) in
    let inner_whole : length inner ≡ 64 =
    subst (λ (b : List ℕ). length b ≡ 64) is_inner (c.are_whole.ensures (4 + p) (omega (arith, low))) in
    let outer_hash = c.picked-2.ensures j lt
    ∙ (c.begin_each-begun.ensures p (omega (arith, low))
    ∙ ap (λ (b : List ℕ). compress initial_hash_256 b) is_outer) in
    let inner_hash = c.picked.ensures j lt
    ∙ (ap (λ (k : ℕ). lane_state k c.begin_each-begun.result) (c.inner_lanes.ensures j lt)
    ∙ (c.begin_each-begun.ensures (4 + p) (omega (arith, low))
    ∙ ap (λ (b : List ℕ). compress initial_hash_256 b) is_inner)) in
    c.close_each.ensures j lt outer (inner ++ text_at c.args.texts.now j) outer_whole outer_hash
    (c.finish_each-inner.ensures j lt inner inner_whole inner_hash)
