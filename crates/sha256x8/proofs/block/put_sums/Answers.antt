use Rattle.std.proofs.Common.{◌<◌, ℕ, slice_index, ◌∙◌, refl, arith}
use Rattle.std.proofs.lemmas.List.{length-set}
use Rattle.sha2.specs.Sha256.{add32}
use Rattle.sha256x8.proofs.LaneWise.{row_kept, stored_row}
use Rattle.sha256x8.proofs.block.put_sums.Goals as goal

pub rows-preserved : goal.rows-preserved
rows-preserved c =
    let long = c.rows.invariant.0 in
    let row = c.put.new.row in (
      length-set c.rows.sums c.rows.k row ∙ long,
      λ n lt. stored_row c.rows.sums row c.args.j c.rows.k n
          (λ n. add32 (slice_index c.args.hash n) (slice_index c.args.v n)) (omega arith) lt
          (c.rows.invariant.1 n) c.put.ensures.written,
      λ n i ne. row_kept c.rows.sums row i c.rows.k n (omega arith) (c.put.ensures.kept i ne)
          ∙ c.rows.invariant.2 n i ne,
    )

pub returns : goal.returns
returns c =
    let word = λ (n : ℕ) (lt : n < 8). c.rows.invariant.1 n (omega arith) in
    record {
      written = rw (
        word 0 (omega arith),
        word 1 (omega arith),
        word 2 (omega arith),
        word 3 (omega arith),
        word 4 (omega arith),
        word 5 (omega arith),
        word 6 (omega arith),
        word 7 (omega arith),
      ) refl;
      kept = λ i ne.
          let same = λ (n : ℕ). c.rows.invariant.2 n i ne in
          rw (same 0, same 1, same 2, same 3, same 4, same 5, same 6, same 7) refl;
    }
