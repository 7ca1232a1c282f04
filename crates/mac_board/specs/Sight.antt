-- What a look at a file found.
use Rattle.mac_board.specs.declared.sight.FileState.{FileState}
use Rattle.mac_board.specs.declared.sight.Sight.{Sight}
use Rattle.mac_board.specs.declared.sight.Sight.TheVariants.{Glance, Read}

-- the state of the file as the look began
abbrev pub state_before : Sight → FileState
state_before (Glance state) = state
state_before (Read before text after) = before

-- the state of the file as the look ended
abbrev pub state_after : Sight → FileState
state_after (Glance state) = state
state_after (Read before text after) = after
