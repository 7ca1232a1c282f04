-- Under which tables requests over HTTP are answered, from turn to turn of a loop (this project's own).
use Rattle.std.specs.Prelude.{◌≡◌, ℕ, true, List, [], ◌∷◌, ◌++◌, All, Option, None, Some, map}
use Rattle.std.specs.List.{AllZip, flat_map}
use Rattle.http_server.specs.Exchange.{Call}
use Rattle.mac_board.specs.Board.{known_by}
use Rattle.mac_board.specs.Follows.{AreInOrder, Known, Takes}
use Rattle.mac_board.specs.declared.follower.Follower.{Follower}
use Rattle.mac_http.specs.Faced.{IsRight}
use Rattle.mac_http.specs.declared.rules.Rules.{Rules}
use Rattle.mac_http.specs.declared.rules.Way.{Way}
use Rattle.mac_keys.specs.KeyTable.{Table}
use Rattle.mac_page.specs.Told.{Responds}
use Rattle.mac_gate.specs.Going.{Past}
use Rattle.mac_gate.specs.Lives.{AreRules, way_of}
use Rattle.mac_gate.specs.declared.offer.AddressTerms.{AddressTerms}
use Rattle.mac_gate.specs.declared.offer.Offer.{Offer}
use Rattle.mac_gate.specs.declared.offer.Offer.TheVariants.{Daemon, Site}

-- what a follower knows of the tables
abbrev pub known_of : Follower → Known
known_of follower = known_by follower.lookout follower.number

-- the same of who follows them, if anybody does
abbrev pub known_to : Option Follower → Option Known
known_to None = None
known_to (Some follower) = Some (known_of follower)

-- the response is right for its request under this table, at some moment, by the rules that an
-- address has for who comes by this way
abbrev pub IsUnder : AddressTerms → Way → Table → Call → Type 0
IsUnder own by table call = (rules : Rules) × AreRules own by rules
    × ((moment : Option ℕ) × IsRight rules (table, moment) call)

-- for each of these requests the tables were looked at once, one after the other, and its response
-- is right under the table that this look came to
abbrev pub AreUnder : AddressTerms → Way → Known → Known → List Call → Type 0
AreUnder own by was is calls =
    (tables : List Table) × Takes true was is tables × AllZip (IsUnder own by) tables calls

-- The same by who follows tables: by who follows none, nothing is answered. A site has no tables: its
-- responses are its own, and nobody looks.
abbrev pub AreAnswered : Offer → Way → Option Known → Option Known → List Call → Type 0
AreAnswered (Daemon own) by (Some was) (Some is) calls = AreUnder own by was is calls
AreAnswered (Daemon own) by (Some was) None calls = ⊥
AreAnswered (Daemon own) by None is calls = (is ≡ None) × (calls ≡ [])
AreAnswered (Site site) by was is calls =
    (is ≡ was) × All (λ call. Responds site call.0 call.1) calls

-- the turn of a connection: these requests were answered in it, as they are offered to it; they stand
-- behind those before, where it goes on
abbrev pub TakesTurn : Past → Option Past → Option Known → Option Known → Type 0
TakesTurn before None was is =
    (calls : List Call) × AreAnswered before.offer (way_of before.stream) was is calls
TakesTurn before (Some after) was is = (calls : List Call) × (after.calls ≡ before.calls ++ calls)
    × AreAnswered before.offer (way_of before.stream) was is calls

-- the same of who is in a slot, if anybody is: else nobody looks
abbrev pub HasTurn : Option Past → Option Past → Option Known → Option Known → Type 0
HasTurn None after was is = is ≡ was
HasTurn (Some before) after was is = TakesTurn before after was is

-- a turn of a loop: what is offered to its connection, by which way, and what was answered
pub record Turn : Type 0 where
  pub offer : Offer
  pub by : Way
  pub calls : List Call

-- turns of a loop, one behind the other: each begins with the tables that are known behind the one
-- before it
abbrev pub AreTurns : Option Known → Option Known → List Turn → Type 0
AreTurns was is [] = is ≡ was
AreTurns was is (turn ∷ turns) = (now : Option Known)
    × AreAnswered turn.offer turn.by was now turn.calls × AreTurns now is turns

-- turns lead from what was known of the tables to what is
abbrev pub GoesByTurns : Option Known → Option Known → Type 0
GoesByTurns was is = (turns : List Turn) × AreTurns was is turns

-- a request with its response, as an address offers it
pub record Answer : Type 0 where
  pub own : AddressTerms
  pub by : Way
  pub call : Call

-- those that are under a table: a site's are under none
abbrev pub answers_of : Offer → Way → List Call → List Answer
answers_of (Daemon own) by calls =
    map (λ call. record { own = own; by = by; call = call }) calls
answers_of (Site site) by calls = []

-- what a daemon answered in a turn
abbrev pub answers_in : Turn → List Answer
answers_in turn = answers_of turn.offer turn.by turn.calls

-- the response is right under this table
abbrev pub IsAnswerUnder : Table → Answer → Type 0
IsAnswerUnder table answer = IsUnder answer.own answer.by table answer.call

-- Each answer of these turns is right under one table, in their order, and these tables were put up in
-- this order: none is older than that of an earlier answer.
pub record KeepOrder (was is : Known) (turns : List Turn) : Type 0 where
  pub tables : List Table
  pub right : AllZip IsAnswerUnder tables (flat_map answers_in turns)
  pub order : AreInOrder true was is tables
