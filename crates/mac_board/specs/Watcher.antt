-- When a key file that changes is taken, and what is told of it.
use Rattle.std.specs.Prelude.{◌≡◌, ◌≢◌, ◌⊎◌, ◌&&◌, ◌==◌, ℕ, nat_lt, if◌then◌else◌, List, [], ◌∷◌, All, Some, Option, Result, Ok, Err}
use Rattle.std.specs.FinMap.{len}
use Rattle.std.specs.declared.vec.Vec.{Vec}
use Rattle.std.specs.declared.alloc.Global.{Global}
use Rattle.mac_keys.specs.KeyTable.{Table}
use Rattle.mac_keys.specs.KeyTable.{table_of}
use Rattle.mac_keys.specs.declared.fault.KeyFault.{KeyFault}
use Rattle.mac_keys.specs.declared.fault.KeyFault.TheVariants.{Line, Memory}
use Rattle.mac_board.specs.Sight.{state_before, state_after}
use Rattle.mac_board.specs.declared.sight.FileState.{FileState}
use Rattle.mac_board.specs.declared.sight.FileState.TheVariants as state
use Rattle.mac_board.specs.declared.sight.ReadFault.TheVariants as read
use Rattle.mac_board.specs.declared.sight.Sight.{Sight}
use Rattle.mac_board.specs.declared.sight.Sight.TheVariants.{Glance, Read}
use Rattle.mac_board.specs.declared.watcher.KeyFileFinding.{KeyFileFinding}
use Rattle.mac_board.specs.declared.watcher.KeyFileFinding.TheVariants as finding
use Rattle.mac_board.specs.declared.watcher.KeyFileRefusal.TheVariants as refusal
use Rattle.mac_board.specs.declared.watcher.Watcher.{Watcher}

-- the file rests: it is found in one state before and after a look, and was found in it at the look
-- before; and it was not dealt with in this state
pub record IsDueIn (was : Watcher) (before after : FileState) : Type 0 where
  pub rests : was.last ≡ before
  pub stays : after ≡ before
  pub is_new : was.settled ≢ Some before

abbrev pub IsDue : Watcher → Sight → Type 0
IsDue was sight = IsDueIn was (state_before sight) (state_after sight)

-- a text's table, where one of so many names is up: that of its lines, unless it has no names and
-- the other has some; else its first fault
abbrev pub judged : ℕ → Result Table KeyFault → KeyFileFinding
judged names (Ok table) =
    if len table.keys == 0 && nat_lt 0 names then finding.Refused refusal.Emptied else finding.Table table
judged names (Err (Line line kind)) = finding.Refused (refusal.Faulty line kind)
judged names (Err Memory) = finding.Nothing

-- what comes of a look that is to be dealt with
abbrev pub worth : ℕ → Sight → KeyFileFinding
worth names (Glance state.Missing) = finding.Refused refusal.Missing
worth names (Glance state.Unknown) = finding.Refused refusal.Unreadable
worth names (Glance (state.Marked mark)) = finding.Nothing
worth names (Read before (Err read.Unreadable) after) = finding.Refused refusal.Unreadable
worth names (Read before (Err read.TooLong) after) = finding.Refused refusal.TooLong
worth names (Read before (Err (read.Exposed why)) after) = finding.Refused (refusal.Exposed why)
worth names (Read before (Ok text) after) = judged names (table_of text.items)

-- there is something to be done
abbrev pub IsNews : KeyFileFinding → Type 0
IsNews found = found ≢ finding.Nothing

-- the state that was dealt with last
abbrev pub settled_by : Option FileState → FileState → KeyFileFinding → Option FileState
settled_by settled state finding.Nothing = settled
settled_by settled state (finding.Table table) = Some state
settled_by settled state (finding.Refused why) = Some state

-- one look: what is due is dealt with, and nothing else is
pub record Sees (was : Watcher) (names : ℕ) (sight : Sight) (found : KeyFileFinding) (now : Watcher) : Type 0 where
  pub found_is : (IsDue was sight × (found ≡ worth names sight))
      ⊎ ((¬ IsDue was sight) × (found ≡ finding.Nothing))
  pub last : now.last ≡ state_after sight
  pub settled : now.settled ≡ settled_by was.settled (state_before sight) found

-- ---- many looks, one after the other

-- what came of looks, each of them made while a table of so many names was up
abbrev pub Goes : Watcher → List (ℕ × Sight) → List KeyFileFinding → Watcher → Type 0
Goes was [] [] now = now ≡ was
Goes was [] (found ∷ others) now = ⊥
Goes was (look ∷ looks) [] now = ⊥
Goes was (look ∷ looks) (found ∷ others) now =
    (next : Watcher) × Sees was look.0 look.1 found next × Goes next looks others now

-- nothing came of them
abbrev pub AreIdle : List KeyFileFinding → Type 0
AreIdle = All (λ found. found ≡ finding.Nothing)

-- no look finds the file, from its begin to its end, as the look before left it
abbrev pub NeverRests : FileState → List (ℕ × Sight) → Type 0
NeverRests last [] = Unit {0}
NeverRests last (look ∷ looks) =
    (¬ ((last ≡ state_before look.1) × (state_after look.1 ≡ state_before look.1)))
    × NeverRests (state_after look.1) looks

-- each look begins with the file in this state
abbrev pub AreOf : FileState → List (ℕ × Sight) → Type 0
AreOf state = All (λ look. state_before look.1 ≡ state)

-- The table is that of a text which was read while the file was in one state, in which it was found
-- at the look before, too, and in which it was not dealt with.
pub record HasRested (was : Watcher) (sight : Sight) (table : Table) : Type 0 where
  pub state : FileState
  pub text : Vec ℕ Global
  pub read : sight ≡ Read state (Ok text) state
  pub before : was.last ≡ state
  pub is_new : was.settled ≢ Some state
  pub spelled : table_of text.items ≡ Ok table
