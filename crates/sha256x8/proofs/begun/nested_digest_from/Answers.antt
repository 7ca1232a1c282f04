use Rattle.std.proofs.Common.{◌≡◌, ℕ, List, ◌++◌, ap, ◌∙◌}
use Rattle.sha2.specs.Sha256.{digest_bytes, sha256}
use Rattle.sha256x8.proofs.begun.nested_digest_from.Goals as goal

pub returns : goal.returns
unfolding sha256
returns c = λ outer inner outer_begun inner_begun.
    let inner_is : c.digest-inner_digest.result ≡ sha256 (inner ++ c.args.text.now) =
    c.digest-inner_digest.ensures
    ∙ ap (λ (h : List ℕ). digest_bytes h 8) (c.finish.ensures inner inner_begun) in
    c.digest.ensures
    ∙ ap (λ (h : List ℕ). digest_bytes h 8) (c.finish-2.ensures outer outer_begun)
    ∙ ap (λ (d : List ℕ). sha256 (outer ++ d)) inner_is
