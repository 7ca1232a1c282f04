-- The connections that a loop was given which have gone.
use Rattle.std.specs.Prelude.{◌≡◌, ℕ, ◌+◌, List, [], length}
use Rattle.std.specs.List.{sum_by}
use Rattle.mac_host.specs.declared.badge.Badge.{Badge}
use Rattle.mac_host.specs.declared.badge.Life.{Life}
use Rattle.mac_host.specs.declared.badge.Socket.{Socket}
use Rattle.mac_loop.specs.Badges.{whose}
use Rattle.mac_loop.specs.Register.{came, parts, went}
use Rattle.mac_loop.specs.declared.outcomes.Outcomes.{Outcomes}
use Rattle.mac_loop.specs.declared.register.Admitted.{Admitted}
use Rattle.mac_loop.specs.declared.register.Origin.{Ghosts}
use Rattle.mac_loop.specs.declared.register.Register.{Register}

-- how many were handed on to another loop, ended and told, or turned away
abbrev pub count_gone : Outcomes → ℕ
count_gone outcomes = length outcomes.handed + length outcomes.ended + length outcomes.refused

-- whom a loop has seen off are, each as often, those whose end was told and those who were turned
-- away; it has admitted nobody, and its part of the register is one thread's
pub record HaveGone {O : Type 0} {origin : Ghosts O} (ended : List Life) (refused : List Badge)
    (register : Register O origin) : Type 0 where
  pub one : parts register ≡ 1
  pub nobody : came register ≡ []
  pub each : (weight : ℕ × Socket → ℕ) →
      sum_by (λ (one : Admitted). weight (one.number, one.socket)) (went register)
      ≡ sum_by (λ (life : Life). weight (whose life.badge)) ended
      + sum_by (λ (badge : Badge). weight (whose badge)) refused
