-- What the system tells of a file that is followed, and what a look at it sees.
use Rattle.std.specs.Prelude.{◌≡◌, ◌⊎◌, List, [], ◌∷◌, ◌++◌, Err}
use Rattle.mac_board.specs.Watcher.{IsDueIn}
use Rattle.mac_board.specs.declared.sight.FileState.{FileState}
use Rattle.mac_board.specs.declared.sight.FileState.TheVariants as state
use Rattle.mac_board.specs.declared.sight.ReadFault.TheVariants.{Unreadable}
use Rattle.mac_board.specs.declared.sight.Sight.{Sight}
use Rattle.mac_board.specs.declared.sight.Sight.TheVariants.{Glance, Read}
use Rattle.mac_board.specs.declared.watcher.Watcher.{Watcher}
use Rattle.mac_commands.specs.declared.observed_file.FileAnswer.{FileAnswer}
use Rattle.mac_commands.specs.declared.observed_file.FileAnswer.TheVariants.{Found, State, Text}
use Rattle.mac_commands.specs.declared.observed_file.ObservedFile.{ObservedFile}

-- What was read is all that the system told behind the first list: the state before, the text and the
-- state after, in this order. A file that can't be opened has no text, and is found in the states
-- before and after.
abbrev pub IsRead : FileState → List FileAnswer → Sight → List FileAnswer → Type 0
IsRead found was (Glance state) now = ⊥
IsRead found was (Read before text after) now =
    (now ≡ was ++ State before ∷ Text text ∷ State after ∷ [])
    ⊎ ((now ≡ was ++ Text text ∷ Found after ∷ []) × (before ≡ found) × (text ≡ Err Unreadable))

-- a file that is found in this state is to be read: it has a mark, and is due
abbrev pub IsWanted : Watcher → FileState → Type 0
IsWanted watcher (state.Marked mark) = IsDueIn watcher (state.Marked mark) (state.Marked mark)
IsWanted watcher _ = ⊥

-- in this state it was read where it is to be; else it was glanced at, and nothing more was told
abbrev pub IsSeenIn : Watcher → FileState → List FileAnswer → Sight → List FileAnswer → Type 0
IsSeenIn watcher found was sight now = (IsWanted watcher found × IsRead found was sight now)
    ⊎ ((¬ IsWanted watcher found) × (sight ≡ Glance found) × (now ≡ was))

-- one look at a file: the system was asked how it is found, and what is seen is all that was told
abbrev pub IsSeen : Watcher → ObservedFile → Sight → ObservedFile → Type 0
IsSeen watcher was sight now =
    (found : FileState) × IsSeenIn watcher found (was.told ++ Found found ∷ []) sight now.told

-- the second list is the first one, with what was told behind it
abbrev pub GoesOn : List FileAnswer → List FileAnswer → Type 0
GoesOn was now = (told : List FileAnswer) × (now ≡ was ++ told)

-- the system was asked how the file is found, if nothing else
abbrev pub IsAsked : ObservedFile → ObservedFile → Type 0
IsAsked was now = (found : FileState) × GoesOn (was.told ++ Found found ∷ []) now.told
