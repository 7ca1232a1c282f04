-- What turns of a connection do.
use Rattle.std.specs.Prelude.{◌≡◌, ℕ, ◌+◌, ◌<◌, ◌⊎◌, Bool, if◌then◌else◌, List, [], ◌∷◌, ◌++◌, length, count_by, Option, Some}
use Rattle.std.specs.Io.KnownBytes.{Appends, Consumes}
use Rattle.http.specs.Request.{head_of}
use Rattle.http.specs.declared.request.Request.{Request}
use Rattle.http_server.specs.Connection.{config_of, history}
use Rattle.http_server.specs.Exchange.{Call, Calls}
use Rattle.http_server.specs.declared.connection.Connection.{Connection}
use Rattle.http_server.specs.declared.response.Response.{Response}
use Rattle.http_uri.specs.Uri.{uri_path}
use Rattle.mac_board.specs.Follows.{IsUp, Looks}
use Rattle.mac_keys.specs.KeyTable.{Table}
use Rattle.mac_http.specs.Faced.{FaceState, IsRight, MayClose, is_noted}
use Rattle.mac_http.specs.Page.{Saying, ShowsIf, has_page, page_in, told_keys}
use Rattle.mac_http.specs.declared.page.Page.{Page}
use Rattle.mac_http.specs.declared.rules.Rules.{Rules}

-- Between the first connection and the second these bytes were read and written, and these calls
-- were made of the service, which lead it from one state to the other.
pub record IsTurn {S : Type 0} (answers : S → Request (List ℕ) → Response → S → Type 0)
    (unread left before after : Option (List ℕ)) (first last : S) (old new : Connection)
    : Type 0 where
  pub read : (more : List ℕ) × Consumes unread left more
      × ((history new).received ≡ (history old).received ++ more)
  pub written : (more : List ℕ) × Appends before after more
      × ((history new).sent ≡ (history old).sent ++ more)
  pub calls : Calls answers first last (history old).calls (history new).calls
  pub config : config_of new ≡ config_of old

-- where the reader gave nothing all stays as it was; where the writer took nothing it is still to
-- be sent
abbrev pub BreaksOff : {S : Type 0} → S → S → Connection → Connection → Type 0
BreaksOff first last old new =
    ((history new ≡ history old) × (last ≡ first))
    ⊎ (((history new).sent ≡ (history old).sent) × (0 < length (history new).pending))

-- how many more are noted by a request
abbrev pub notes_of : Request (List ℕ) → ℕ
notes_of request = if is_noted request then 1 else 0

-- One call of a service that is a face: there is one look at the tables and one at the clock, the
-- response is right under the table and at the moment that they gave, and the request is noted once,
-- or not at all where its path names a page.
pub record AnswersOnce {S : Type 0} (tells : Bool) (state : S → FaceState) (old : S)
    (request : Request (List ℕ)) (response : Response) (new : S) : Type 0 where
  pub under : Table × Option ℕ
  pub looks : Looks tells (state old).known (state new).known
  pub up : IsUp (state new).known under.0
  pub rules : (state new).rules ≡ (state old).rules
  pub told : (state new).told ≡ (state old).told ++ under.1 ∷ []
  pub right : IsRight (state old).rules under (request, response)
  pub noted : (state new).noted ≡ (state old).noted + notes_of request

-- The response to a request whose path names a page is what the daemon says of that page, where the
-- face has it; it may tell besides that the connection is closed.
abbrev pub SaysPage : Saying → Rules → Table → Request (List ℕ) → Response → Type 0
SaysPage says rules table request response = (page : Page)
    → page_in (uri_path (head_of request).uri) ≡ Some page
    → (plain : Response)
    × ShowsIf (has_page rules.pages page) says page (told_keys rules.way table) plain
    × MayClose plain response

-- as many more were noted as there are requests whose path names no page among the calls that came
-- to those before
abbrev pub NotesCalls : (first last : ℕ) (before after : List Call) → Type 0
NotesCalls first last before after = (calls : List Call) × (after ≡ before ++ calls)
    × (last ≡ first + count_by (λ call. is_noted call.0) calls)
