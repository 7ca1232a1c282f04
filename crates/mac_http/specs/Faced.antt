-- What a peer is answered, over a reader and a writer that state their bytes.
use Rattle.std.specs.Prelude.{◌≡◌, ◌⊎◌, ℕ, ◌+◌, Bool, List, [], ◌∷◌, ◌++◌, map, count_by, codes, Option, Some, None, is_none}
use Rattle.std.specs.Io.KnownBytes.{Appends, Consumes}
use Rattle.std.specs.List.{AllZip}
use Rattle.http.specs.Request.{head_of}
use Rattle.http.specs.declared.request.Request.{Request}
use Rattle.http_server.specs.Exchange.{Call as Exchanged}
use Rattle.http_server.specs.History.{History, IsServed}
use Rattle.http_server.specs.Response.{fields_of}
use Rattle.http_server.specs.declared.response.Response.{Response}
use Rattle.http_uri.specs.Uri.{uri_path}
use Rattle.mac_board.specs.Follows.{Known, Takes}
use Rattle.mac_calls.specs.declared.call.Call.{Call}
use Rattle.mac_keys.specs.KeyTable.{Table}
use Rattle.mac_http.specs.declared.attending.TheConstants.{CONFIG}
use Rattle.mac_http.specs.declared.page.Page.{Page}
use Rattle.mac_http.specs.declared.rules.Rules.{Rules}
use Rattle.mac_http.specs.Calling.{RespondsToCall, allowed_calls, call_in}
use Rattle.mac_http.specs.Found.{found_of}
use Rattle.mac_http.specs.Page.{TellsPage, page_in}
use Rattle.mac_http.specs.Saying.{Responds}

-- the response to a request whose path names no page: to this call, or to a verify
abbrev pub IsAnswerToCall : Option (Call × List ℕ) → Table → Rules → Option ℕ
    → Request (List ℕ) → Response → Type 0
IsAnswerToCall (Some asked) table rules moment request response =
    RespondsToCall table rules moment asked request response
IsAnswerToCall None table rules moment request response =
    Responds rules.granted (found_of table rules moment (head_of request)) response

-- the same, to the call that the path asks for, if the rules allow it
abbrev pub IsPlainAnswer : Table → Rules → Option ℕ → Request (List ℕ) → Response → Type 0
IsPlainAnswer table rules moment request =
    IsAnswerToCall (call_in (allowed_calls rules) (uri_path (head_of request).uri))
    table rules moment request

-- the response to a request whose path names this page, or none
abbrev pub IsAnswerTo : Option Page → Table → Rules → Option ℕ → Request (List ℕ) → Response
    → Type 0
IsAnswerTo (Some page) table rules moment request response = TellsPage rules.pages page response
IsAnswerTo None table rules moment request response =
    IsPlainAnswer table rules moment request response

-- the response is the one that comes of the request under the keys at the moment
abbrev pub IsAnswer : Table → Rules → Option ℕ → Request (List ℕ) → Response → Type 0
IsAnswer table rules moment request =
    IsAnswerTo (page_in (uri_path (head_of request).uri)) table rules moment request

-- the response is the first one, and may tell besides that the connection is closed
pub record MayClose (plain response : Response) : Type 0 where
  pub status : response.status ≡ plain.status
  pub body : response.body ≡ plain.body
  pub fields : (fields_of response ≡ fields_of plain)
      ⊎ (fields_of response ≡ fields_of plain ++ (codes "connection", codes "close") ∷ [])

-- the same, where the connection may be closed behind it
abbrev pub IsRight : Rules → Table × Option ℕ → Exchanged → Type 0
IsRight rules under c = (plain : Response)
    × IsAnswer under.0 rules under.1 c.0 plain × MayClose plain c.1

-- a request is noted unless its path names a page
abbrev pub is_noted : Request (List ℕ) → Bool
is_noted request = is_none (page_in (uri_path (head_of request).uri))

-- What is known of a face: of the tables that it looks at, its rules, the moments that its clock
-- told, and how many requests were noted.
pub record FaceState : Type 0 where
  pub known : Known
  pub rules : Rules
  pub told : List (Option ℕ)
  pub noted : ℕ

-- What was written are HTTP's answers to the requests that were read, in order. For each call of
-- the service there was one look at the tables and one at the clock, and the response is right under
-- the table that was up then and at the moment that was told. As many more are noted as there are
-- requests whose path names no page.
pub record IsFaced (tells : Bool) (first last : FaceState)
    (unread left before after : Option (List ℕ)) : Type 0 where
  pub history : History
  pub read : Consumes unread left history.received
  pub written : Appends before after history.sent
  pub served : ∥ IsServed CONFIG history ∥₁
  pub under : List (Table × Option ℕ)
  pub taken : Takes tells first.known last.known (map (λ u. u.0) under)
  pub told : last.told ≡ first.told ++ map (λ u. u.1) under
  pub right : AllZip (IsRight first.rules) under history.calls
  pub noted : last.noted ≡ first.noted + count_by (λ call. is_noted call.0) history.calls
