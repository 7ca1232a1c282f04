-- How many connections a loop was given.
use Rattle.std.specs.Prelude.{ℕ, length}
use Rattle.mac_loop.specs.declared.outcomes.Outcomes.{Outcomes}

-- those that were handed to it, by whoever accepts them or by another loop
abbrev pub count_given : Outcomes → ℕ
count_given outcomes = length outcomes.given
