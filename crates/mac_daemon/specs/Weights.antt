-- Lists of connections, compared by their numbers and sockets and without their order: two lists hold
-- the same ones, each as often, where they weigh the same, however connections are weighed.
use Rattle.std.specs.Prelude.{◌≡◌, ℕ, ◌+◌, List}
use Rattle.std.specs.List.{sum_by}
use Rattle.mac_host.specs.declared.badge.Badge.{Badge}
use Rattle.mac_host.specs.declared.badge.Socket.{Socket}
use Rattle.mac_loop.specs.Badges.{whose}
use Rattle.mac_loop.specs.declared.register.Admitted.{Admitted}

-- what those weigh that were admitted
abbrev pub weigh_admitted : (ℕ × Socket → ℕ) → List Admitted → ℕ
weigh_admitted weight all = sum_by (λ one. weight (one.number, one.socket)) all

-- what those weigh that have these badges
abbrev pub weigh_badges : (ℕ × Socket → ℕ) → List Badge → ℕ
weigh_badges weight badges = sum_by (λ badge. weight (whose badge)) badges

-- all are, each once, those of the three other lists
abbrev pub AreSorted : (all one two three : List Badge) → Type 0
AreSorted all one two three = (weight : ℕ × Socket → ℕ) → weigh_badges weight all
    ≡ weigh_badges weight one + weigh_badges weight two + weigh_badges weight three
