-- A connection over HTTP, by all that came and went on its socket (this project's own).
use Rattle.std.specs.Prelude.{◌≡◌, ◌⊎◌, ℕ, false, List, [], ◌++◌, All, Option, Some, None, Result, Ok, Err, codes, take}
use Rattle.std.specs.IoError.{error_kind}
use Rattle.std.specs.declared.io.Error.{Error}
use Rattle.std.specs.declared.io.ErrorKind.TheVariants.{WouldBlock}
use Rattle.http.specs.Request.{head_of}
use Rattle.http.specs.declared.request.Request.{Request}
use Rattle.http_server.specs.Connection.{config_of, history}
use Rattle.http_server.specs.Exchange.{Call}
use Rattle.http_server.specs.History.{History, IsDone, IsServed}
use Rattle.http_server.specs.Response.{IsResponse}
use Rattle.http_server.specs.declared.connection.Connection.{Connection}
use Rattle.http_server.specs.declared.response.Response.{Response}
use Rattle.http_uri.specs.Uri.{uri_path}
use Rattle.mac_http.specs.Faced.{IsRight}
use Rattle.mac_http.specs.Facts.{one_value}
use Rattle.mac_http.specs.Page.{has_page, page_in}
use Rattle.mac_http.specs.Saying.{IsOverloaded}
use Rattle.mac_http.specs.declared.attending.TheConstants.{CONFIG}
use Rattle.mac_http.specs.declared.page.Page.{Page}
use Rattle.mac_http.specs.declared.rules.Pages.{Pages}
use Rattle.mac_http.specs.declared.rules.Rules.{Rules}
use Rattle.mac_http.specs.declared.rules.Way.{Way}
use Rattle.mac_http.specs.declared.rules.Way.TheVariants as way
use Rattle.mac_keys.specs.KeyTable.{Table}
use Rattle.mac_page.specs.Route.{file_in}
use Rattle.mac_page.specs.Told.{Responds, guards}
use Rattle.mac_page.specs.declared.site.Site.{Site as PageSite}
use Rattle.mac_sockets.specs.declared.stream.Stream.{Stream}
use Rattle.mac_sockets.specs.declared.stream.Stream.TheVariants.{Unix, Tcp}
use Rattle.mac_gate.specs.declared.flow.Flow.{Flow}
use Rattle.mac_gate.specs.declared.offer.AddressTerms.{AddressTerms}
use Rattle.mac_gate.specs.declared.offer.Offer.{Offer}
use Rattle.mac_gate.specs.declared.offer.Offer.TheVariants.{Daemon, Site}

-- the way by which the peer of a stream comes
abbrev pub way_of : Stream → Way
way_of (Unix stream) = way.Socket
way_of (Tcp stream) = way.Port

-- the rules of a face are those of an address, for who comes by this way
pub record AreRules (own : AddressTerms) (by : Way) (rules : Rules) : Type 0 where
  pub sources : rules.sources ≡ own.terms.sources
  pub granted : rules.granted ≡ own.terms.granted
  pub calls : rules.calls ≡ own.terms.calls
  pub pages : rules.pages ≡ own.terms.pages
  pub rights : rules.rights.now ≡ own.rights
  pub way : rules.way ≡ by

-- the response is the one to its request under the rules of the address, under some table and at some
-- moment; or the one that its site has
abbrev pub IsOffered : Offer → Way → Call → Type 0
IsOffered (Daemon own) by call = (rules : Rules) × AreRules own by rules
    × ((under : Table × Option ℕ) × IsRight rules under call)
IsOffered (Site site) by call = Responds site call.0 call.1

-- Between two states of a connection these bytes were taken of those that were heard, these were
-- written, and these requests were answered, as they are to be.
pub record IsTurnBy (AreRight : List Call → Type 0) (heard left before after : List ℕ)
    (old new : Connection) : Type 0 where
  pub read : (more : List ℕ) × (heard ≡ more ++ left)
      × ((history new).received ≡ (history old).received ++ more)
  pub written : (more : List ℕ) × (after ≡ before ++ more)
      × ((history new).sent ≡ (history old).sent ++ more)
  pub called : (calls : List Call) × ((history new).calls ≡ (history old).calls ++ calls)
      × AreRight calls
  pub config : config_of new ≡ config_of old

-- What came is what HTTP was given, then what was heard and isn't answered yet, and then what is
-- gathered. What went is what it gave, and each response is the one that is offered.
pub record Lives (offer : Offer) (by : Way) (flow : Flow) (heard : List ℕ) (connection : Connection)
    : Type 0 where
  pub came : flow.came.bytes ≡ (history connection).received ++ (heard ++ flow.gathered.bytes.items)
  pub went : flow.went.bytes ≡ (history connection).sent
  pub right : All (IsOffered offer by) (history connection).calls
  pub config : config_of connection ≡ CONFIG

-- these bytes more came: they are heard, behind what was gathered, or gathered
abbrev pub Adds : Flow → List ℕ → Flow → Type 0
Adds old heard new = (more : List ℕ) × (new.came.bytes ≡ old.came.bytes ++ more)
    × (heard ++ new.gathered.bytes.items ≡ old.gathered.bytes.items ++ more)

-- the same of a read, which gives so many bytes of a piece, or nothing yet; a fault loses some
abbrev pub Hears : Flow → Result ℕ Error → List ℕ → Flow → Type 0
Hears old (Ok told) piece new = Adds old (take told piece) new × (new.went.bytes ≡ old.went.bytes)
Hears old (Err fault) piece new = (error_kind fault ≡ WouldBlock → Adds old [] new)
    × (new.went.bytes ≡ old.went.bytes)

-- What was written is a beginning of HTTP's answers to the requests that were read, in order, each
-- once, and each response is the one that is offered.
pub record Said (offer : Offer) (by : Way) (came went : List ℕ) : Type 0 where
  pub done : History
  pub read : (unread : List ℕ) × (came ≡ done.received ++ unread)
  pub written : went ≡ done.sent
  pub served : ∥ IsServed CONFIG done ∥₁
  pub right : All (IsOffered offer by) done.calls

-- The same, and all of it was written: HTTP has nothing more to do.
pub record SaidAll (offer : Offer) (by : Way) (came went : List ℕ) : Type 0 where
  pub said : Said offer by came went
  pub done : IsDone said.done

-- the request names a path below `/mint/`
abbrev pub AsksToMint : Request (List ℕ) → Type 0
AsksToMint request = (below : List ℕ) × (uri_path (head_of request).uri ≡ codes "/mint/" ++ below)

-- the response tells that nothing is there, or that there is no memory, and nothing besides
abbrev pub IsDenied : Response → Type 0
IsDenied response = ((response.status ≡ 404) ⊎ (response.status ≡ 503)) × (response.body.items ≡ [])

-- a request for no file that doesn't bring the secret of the page is refused, or there is no memory
abbrev pub IsGuarded : PageSite → Request (List ℕ) → Response → Type 0
IsGuarded site request response = file_in (uri_path (head_of request).uri) ≡ None
    → ¬ (one_value (head_of request).headers (codes "macaroond-page") ≡ Some site.secrets.of_page)
    → IsResponse 403 guards [] response ⊎ IsOverloaded response

-- a request for a page that isn't there is told that nothing is, without a body
abbrev pub IsNoPage : Pages → Request (List ℕ) → Response → Type 0
IsNoPage pages request response = (page : Page) → page_in (uri_path (head_of request).uri) ≡ Some page
    → has_page pages page ≡ false → (response.status ≡ 404) × (response.body.items ≡ [])
