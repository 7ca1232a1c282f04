use Rattle.std.proofs.Common.{◌≡◌, ℕ, List}
use Rattle.sha256x8.specs.Begun.{IsBegun}
use Rattle.sha256x8.proofs.HashAfter.{hashed}
use Rattle.sha256x8.proofs.begun.finish.Given as goal

abbrev pub invariant-taking : goal.invariant-taking
invariant-taking l = (block : List ℕ) → IsBegun l.fn.hash block
    → l.hash ≡ hashed block l.text l.index
