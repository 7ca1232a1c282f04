use Rattle.std.proofs.Common.{◌+◌, ◌%◌, ◌^◌, ℕ, ap, ◌∙◌}
use Rattle.std.proofs.Math.Nat.{add-mod-mod}
use Rattle.mac_loop.proofs.BacklogLemmas.{added}
use Rattle.mac_loop.specs.Backlog.{rounded}
use Rattle.mac_loop.proofs.backlog.Backlog.plus.Goals as goal

pub returns : goal.returns
unfolding rounded
returns c = λ these those is are.
    added _ _ these _ is ∙ ap (λ (n : ℕ). (these + n) % 2 ^ 64) are ∙ add-mod-mod these those (2 ^ 64)
