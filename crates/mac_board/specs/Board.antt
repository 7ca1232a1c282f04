-- The list of the tables that were up on a board, and what each step of its handles tells.
use Rattle.std.specs.Prelude.{◌≡◌, ℕ, ◌+◌, List, [], ◌∷◌, ◌++◌, length, slice_get, option_map, unwrap_or, Option, Some, None}
use Rattle.std.specs.Arc.{arc_value}
use mathlib.Core.Option.{some}
use lib.ListN.{get_elem?}
use Rattle.left_right.specs.Sides.{view}
use Rattle.mac_keys.specs.KeyTable.{Table}
use Rattle.mac_board.specs.declared.issue.Issue.{Issue}
use Rattle.mac_board.specs.declared.lookout.Lookout.{Lookout}
use Rattle.mac_board.specs.Follows.{Begins, Known}

-- the list ends in the table of this issue, which has its last place as its number
pub record Ends (log : List Table) (issue : Issue) : Type 0 where
  pub count : length log ≡ issue.number + 1
  pub last : slice_get log issue.number ≡ Some (arc_value issue.table)

-- there is a list of all tables that were up, the last of which is up, and each view is a beginning
-- of it
pub record Kept (issue : Issue) (views : List (List Table)) : Type 0 where
  pub log : List Table
  pub ends : Ends log issue
  pub each : (seat : ℕ) (view : List Table) → get_elem? views seat ≡ some view → Begins view log

-- a reader gets to know a list that goes on from what it knew, and ends in what is up
abbrev pub Sees : List Table → Issue → Issue → List Table → Type 0
Sees view before after seen = Begins view seen × Ends seen before

-- what the writer knows: before its first step, that the one table was up that is up
abbrev pub history : List Table → Table → List Table
history [] up = up ∷ []
history (t ∷ ts) up = t ∷ ts

-- the writer, where it knows all, puts one more table up
abbrev pub Puts : List Table → Issue → Issue → List Table → Type 0
Puts view before after seen =
    seen ≡ history view (arc_value before.table) ++ arc_value after.table ∷ []

-- the writer shows once more what is up, and knows what it knew
abbrev pub Stays : List Table → Issue → Issue → List Table → Type 0
Stays view before after seen = seen ≡ view

-- what a lookout has seen, by its reader
abbrev pub seen_by : Lookout → List Table
seen_by lookout = unwrap_or (option_map (λ r. view r.place) lookout.reader) []

-- the number of what was found, or where nothing was the one that is had
abbrev pub number_of : Option Issue → ℕ → ℕ
number_of None had = had
number_of (Some issue) had = issue.number

-- what is known to who has the table of this number
abbrev pub known_by : Lookout → ℕ → Known
known_by lookout number =
    record { published = seen_by lookout; place = number; looks = lookout.came_to }
