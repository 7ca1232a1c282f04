use Rattle.std.proofs.Common.{ℕ, ◌≡◌, ◌+◌, ◌*◌, replicate, arith, ap, ◌∙◌}
use Rattle.std.proofs.lemmas.List.{replicate-append-replicate}
use Rattle.time_blocks.proofs.digest_of_zeros.Goals as goal

pub loop-fed-preserved : goal.loop-fed-preserved
loop-fed-preserved c =
    let sum : 64 * c.loop-fed.fed + 64 ≡ 64 * (c.loop-fed.fed + 1) = omega arith in
    let zero : ℕ = 0 in
    let more = replicate-append-replicate (64 * c.loop-fed.fed) 64 zero ∙ ap (λ n. replicate n zero) sum in
    rw (← more) (c.update.ensures _ c.loop-fed.invariant)
