-- The loops of a daemon that have ended.
use Rattle.std.specs.Prelude.{List}
use Rattle.mac_daemon.specs.declared.ended_loops.EndedLoops.{EndedLoops}
use Rattle.mac_loop.specs.declared.outcomes.Outcomes.{Outcomes}

-- what became of the connections of each
abbrev pub outcomes_of : EndedLoops → List Outcomes
outcomes_of loops = loops.outcomes
