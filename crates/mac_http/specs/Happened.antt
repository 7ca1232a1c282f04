-- What happened where a request was answered, and what is noted of that (this project's own).
use Rattle.std.specs.Prelude.{◌≡◌, ℕ, List, Option, Some, None, IsSomeAnd}
use Rattle.http.specs.Request.{head_of}
use Rattle.http.specs.declared.request.Parts.{Parts}
use Rattle.http.specs.declared.request.Request.{Request}
use Rattle.http_server.specs.declared.response.Response.{Response}
use Rattle.http_uri.specs.Uri.{uri_path}
use Rattle.mac_calls.specs.declared.call.Call.{Call}
use Rattle.mac_keys.specs.KeyTable.{Table}
use Rattle.mac_http.specs.declared.happened.Happened.{Happened}
use Rattle.mac_http.specs.declared.happened.Happened.TheVariants.{PageTold, Called, Judged}
use Rattle.mac_http.specs.declared.noted.Noted.{Noted}
use Rattle.mac_http.specs.declared.page.Page.{Page}
use Rattle.mac_http.specs.declared.rules.Rules.{Rules}
use Rattle.mac_http.specs.Calling.{NotesCall, allowed_calls, call_in}
use Rattle.mac_http.specs.Found.{found_of}
use Rattle.mac_http.specs.Noted.{IsNoteOfCall, IsNoteOfPath}
use Rattle.mac_http.specs.Page.{page_in}
use Rattle.mac_http.specs.Saying.{NotesJudged}

-- what happened at a path that names no page and asks for this call, or for none: the call was
-- answered, or the path was judged, and what came of that is what the response tells
abbrev pub HappensAt : Option (Call × List ℕ) → Table → Rules → Option ℕ → Request (List ℕ)
    → Response → Happened → Type 0
HappensAt call table rules moment request response PageTold = ⊥
HappensAt call table rules moment request response (Called asked outcome) =
    (call ≡ Some (asked.call, asked.name.now))
    × NotesCall table rules moment (asked.call, asked.name.now) request response outcome
HappensAt call table rules moment request response (Judged judged) = (call ≡ None)
    × NotesJudged rules.granted (found_of table rules moment (head_of request)) response judged

-- the same, with the call that the path asks for, if the rules allow it
abbrev pub HappensPlainly : Table → Rules → Option ℕ → Request (List ℕ) → Response → Happened
    → Type 0
HappensPlainly table rules moment request =
    HappensAt (call_in (allowed_calls rules) (uri_path (head_of request).uri))
    table rules moment request

-- what happened at a path that names this page, or none
abbrev pub HappensBy : Option Page → Table → Rules → Option ℕ → Request (List ℕ) → Response
    → Happened → Type 0
HappensBy (Some page) table rules moment request response happened = happened ≡ PageTold
HappensBy None table rules moment request response happened =
    HappensPlainly table rules moment request response happened

-- what happened where the request has this response, under the keys at the moment
abbrev pub Happens : Table → Rules → Option ℕ → Request (List ℕ) → Response → Happened → Type 0
Happens table rules moment request =
    HappensBy (page_in (uri_path (head_of request).uri)) table rules moment request

-- what is noted, if anything is, of what happened to a request with this head and status
abbrev pub IsNoteOf : Happened → Parts → ℕ → Option Noted → Type 0
IsNoteOf PageTold head status noted = noted ≡ None
IsNoteOf (Called asked outcome) head status noted =
    IsSomeAnd noted (IsNoteOfCall (asked.call, asked.name.now) outcome head status)
IsNoteOf (Judged judged) head status noted = IsSomeAnd noted (IsNoteOfPath judged head status)

-- how many notes are made of what happened: one, but none of a page
abbrev pub notes_in : Happened → ℕ
notes_in PageTold = 0
notes_in (Called asked outcome) = 1
notes_in (Judged judged) = 1
