-- When a list of tokens that were taken back is taken, and what is told of it.
use Rattle.std.specs.Prelude.{◌≡◌, ◌≢◌, ◌⊎◌, ◌==◌, ◌&&◌, ◌||◌, ℕ, Bool, not, if◌then◌else◌, List, [], ◌∷◌, All, Some, Option, Result, Ok, Err, IsTrue}
use Rattle.std.specs.declared.vec.Vec.{Vec}
use Rattle.std.specs.declared.alloc.Global.{Global}
use Rattle.mac_keys.specs.Revoked.{Revoked, count_said, means_none, revoked_of}
use Rattle.mac_keys.specs.declared.revoked_fault.RevokedFault.{RevokedFault}
use Rattle.mac_keys.specs.declared.revoked_fault.RevokedFault.TheVariants.{Line, Memory}
use Rattle.mac_board.specs.Sight.{state_before, state_after}
use Rattle.mac_board.specs.Watcher.{IsDue}
use Rattle.mac_board.specs.declared.listing.ListFinding.{ListFinding}
use Rattle.mac_board.specs.declared.listing.ListFinding.TheVariants as finding
use Rattle.mac_board.specs.declared.listing.ListRefusal.TheVariants as refusal
use Rattle.mac_board.specs.declared.listing.ListUp.{ListUp}
use Rattle.mac_board.specs.declared.sight.FileState.{FileState}
use Rattle.mac_board.specs.declared.sight.FileState.TheVariants as state
use Rattle.mac_board.specs.declared.sight.ReadFault.TheVariants as read
use Rattle.mac_board.specs.declared.sight.Sight.{Sight}
use Rattle.mac_board.specs.declared.sight.Sight.TheVariants.{Glance, Read}
use Rattle.mac_board.specs.declared.watcher.Watcher.{Watcher}

-- a text may say nothing where the list that is up has no lines, where it was set that lists may,
-- or where a line `# none` of the text says that this is meant
abbrev pub may_empty : ListUp → List ℕ → Bool
may_empty up text = up.lines == 0 || up.may_empty || means_none text

-- a text's list, beside the one that is up: what its lines take back, unless none says anything and
-- that may not be; else its first fault
abbrev pub judged_list : ListUp → List ℕ → Result Revoked RevokedFault → ListFinding
judged_list up text (Ok list) =
    if count_said text == 0 && not (may_empty up text) then finding.Refused refusal.Emptied
    else finding.List list
judged_list up text (Err (Line line kind)) = finding.Refused (refusal.Faulty line kind)
judged_list up text (Err Memory) = finding.Nothing

-- what comes of a look that is to be dealt with
abbrev pub list_worth : ListUp → Sight → ListFinding
list_worth up (Glance state.Missing) = finding.Refused refusal.Missing
list_worth up (Glance state.Unknown) = finding.Refused refusal.Unreadable
list_worth up (Glance (state.Marked mark)) = finding.Nothing
list_worth up (Read before (Err read.Unreadable) after) = finding.Refused refusal.Unreadable
list_worth up (Read before (Err read.TooLong) after) = finding.Refused refusal.TooLong
list_worth up (Read before (Err (read.Exposed why)) after) = finding.Refused (refusal.Exposed why)
list_worth up (Read before (Ok text) after) = judged_list up text.items (revoked_of text.items)

-- there is something to be done
abbrev pub IsListNews : ListFinding → Type 0
IsListNews found = found ≢ finding.Nothing

-- the state that was dealt with last
abbrev pub settled_by_list : Option FileState → FileState → ListFinding → Option FileState
settled_by_list settled state finding.Nothing = settled
settled_by_list settled state (finding.List list) = Some state
settled_by_list settled state (finding.Refused why) = Some state

-- one look at the list: what is due is dealt with, and nothing else is
pub record SeesList (was : Watcher) (up : ListUp) (sight : Sight) (found : ListFinding) (now : Watcher) : Type 0 where
  pub found_is : (IsDue was sight × (found ≡ list_worth up sight))
      ⊎ ((¬ IsDue was sight) × (found ≡ finding.Nothing))
  pub last : now.last ≡ state_after sight
  pub settled : now.settled ≡ settled_by_list was.settled (state_before sight) found

-- what came of looks, one after the other, each of them made while such a list was up
abbrev pub GoesList : Watcher → List (ListUp × Sight) → List ListFinding → Watcher → Type 0
GoesList was [] [] now = now ≡ was
GoesList was [] (found ∷ others) now = ⊥
GoesList was (look ∷ looks) [] now = ⊥
GoesList was (look ∷ looks) (found ∷ others) now =
    (next : Watcher) × SeesList was look.0 look.1 found next × GoesList next looks others now

-- nothing came of them
abbrev pub AreIdleLists : List ListFinding → Type 0
AreIdleLists = All (λ found. found ≡ finding.Nothing)

-- each look begins with the file in this state
abbrev pub AreOfList : FileState → List (ListUp × Sight) → Type 0
AreOfList state = All (λ look. state_before look.1 ≡ state)

-- The list that is taken is that of a text which was read while the file was in one state, in which
-- it was found at the look before, too, and in which it was not dealt with. The text says
-- something, or may say nothing.
pub record ListHasRested (was : Watcher) (up : ListUp) (sight : Sight) (list : Revoked) : Type 0 where
  pub state : FileState
  pub text : Vec ℕ Global
  pub read : sight ≡ Read state (Ok text) state
  pub before : was.last ≡ state
  pub is_new : was.settled ≢ Some state
  pub spelled : revoked_of text.items ≡ Ok list
  pub says : (count_said text.items ≢ 0) ⊎ IsTrue (may_empty up text.items)
