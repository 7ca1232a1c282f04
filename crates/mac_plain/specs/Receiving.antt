-- What comes on one client, and what requests it is cut into.
use Rattle.std.specs.Prelude.{◌≡◌, ℕ, ◌≤◌, Bool, List, [], ◌++◌, length, drop, map, Result, Ok, Err}
use Rattle.mac_board.specs.Noticed.{Current}
use Rattle.mac_wire.specs.declared.session.Session.{Session}
use Rattle.mac_wire.specs.Frame.{Arrive, IsUnfinished}
use Rattle.mac_decide.specs.declared.job.Job.{Job}
use Rattle.mac_plain.specs.Dear.{AreCheap, GoesWide}
use Rattle.mac_plain.specs.Goes.{Goes, Owes, OwesSo, asked}
use Rattle.mac_plain.specs.Requests.{Adds, payload_at}
use Rattle.mac_plain.specs.declared.client.Client.{Client}
use Rattle.mac_plain.specs.declared.course.Course.{Course}
use Rattle.mac_plain.specs.declared.course.Course.TheVariants as course
use Rattle.mac_plain.specs.declared.request.RoundRequest.{RoundRequest}

-- both pieces were put behind what lay there, or the first alone, or none
pub record Joined (before first second after : List ℕ) : Type 0 where
  pub part : List ℕ
  pub are : after ≡ before ++ part

abbrev pub Joins : {E : Type 0} → List ℕ → List ℕ → List ℕ → Result Unit E → List ℕ → Type 0
Joins before first second (Ok x) after = after ≡ before ++ (first ++ second)
Joins before first second (Err e) after = Joined before first second after

-- how a connection goes on with such a rest: an open one has less than a whole frame, and a wide
-- one what it goes wide for
abbrev pub Leaves : Course → List ℕ → Type 0
Leaves course.Open rest = IsUnfinished rest
Leaves course.Held rest = ⊥
Leaves course.Wide rest = GoesWide rest
Leaves (course.Awaiting basis) rest = ⊥
Leaves course.TooLong rest = ⊥
Leaves (course.Ended why) rest = ⊥
Leaves (course.Fallen why) rest = ⊥

-- requests were cut off what lies from one place to another, none of them too dear for a loop
pub record CutsTo (arena : List ℕ) (from at owner : ℕ) (before after : List RoundRequest) : Type 0 where
  pub own : List RoundRequest
  pub adds : Adds owner (length arena) before after own
  pub ahead : from ≤ at
  pub inside : at ≤ length arena
  pub arrive : Arrive (drop from arena) (asked (map (payload_at arena) own)) (drop at arena)
  pub cheap : AreCheap (map (payload_at arena) own)

-- as many as there are, or some where memory ran out
abbrev pub Cuts : {E : Type 0} → List ℕ → ℕ → ℕ → List RoundRequest → List RoundRequest
    → Result (ℕ × Course) E → Type 0
Cuts arena from owner before after (Ok x) =
    CutsTo arena from x.0 owner before after × Leaves x.1 (drop x.0 arena)
Cuts arena from owner before after (Err e) =
    (own : List RoundRequest) × Adds owner (length arena) before after own
    × AreCheap (map (payload_at arena) own)

-- a piece came on a session: with it these requests are owed besides
pub record TakesIn (owner : ℕ) (piece : List ℕ) (before after : Session) (arena arena' : List ℕ)
    (requests requests' : List RoundRequest) (goes : Course) : Type 0 where
  pub part : List ℕ
  pub arena_is : arena' ≡ arena ++ part
  pub own : List RoundRequest
  pub adds : Adds owner (length arena') requests requests' own
  pub cheap : AreCheap (map (payload_at arena') own)
  pub goes_on : (read sent : List ℕ) (done : List Job) (owed : List (List ℕ))
      → Owes before read sent done owed
      → OwesSo goes after (read ++ piece) sent done
      (owed ++ map (payload_at arena') own)

-- From the one to the other, a client was read: what came lies behind what lay there, and its
-- requests are behind those that were there.
pub record Receives {P : Type 0} (tells : Bool) (taken written : P → List ℕ) (current : Current)
    (owner : ℕ) (before after : Client P) (arena arena' : List ℕ)
    (requests requests' : List RoundRequest) : Type 0 where
  pub part : List ℕ
  pub arena_is : arena' ≡ arena ++ part
  pub own : List RoundRequest
  pub adds : Adds owner (length arena') requests requests' own
  pub goes : Goes tells taken written current before after [] (map (payload_at arena') own)
