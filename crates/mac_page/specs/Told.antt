-- What a request to the page is told, and the response that tells it (this project's own). The first
-- case that holds is the answer.
use Rattle.std.specs.Prelude.{ℕ, ◌≡◌, ◌⊎◌, length, Bool, if◌then◌else◌, List, [], ◌∷◌, ◌++◌, codes, bytes_eq, Option, Some, None}
use Rattle.http.specs.Request.{head_of, body_of}
use Rattle.http.specs.declared.request.Request.{Request}
use Rattle.http1.specs.Fields.{Header}
use Rattle.http_server.specs.declared.response.Response.{Response}
use Rattle.http_server.specs.Response.{IsResponse}
use Rattle.http_uri.specs.Uri.{uri_path}
use Rattle.mac_calls.specs.Names.{names_json}
use Rattle.mac_calls.specs.Outcome.{outcome_of}
use Rattle.mac_calls.specs.declared.answering.CallOutcome.{CallOutcome}
use Rattle.mac_calls.specs.declared.answering.CallOutcome.TheVariants as outcome
use Rattle.mac_calls.specs.declared.call.Call.{Call}
use Rattle.mac_http.specs.Calling.{is_json}
use Rattle.mac_http.specs.Saying.{IsOverloaded}
use Rattle.mac_page.specs.declared.route.File.{File}
use Rattle.mac_page.specs.declared.route.File.TheVariants.{Document, Style, Script}
use Rattle.mac_page.specs.declared.site.Site.{Site}
use Rattle.mac_page.specs.declared.told.SiteTold.{SiteTold}
use Rattle.mac_page.specs.declared.told.SiteTold.TheVariants.{Foreign, Unknown, NoGet, NoPost, File as Shown, Here, Names, Called}
use Rattle.mac_page.specs.Home.{is_at_home, is_shown}
use Rattle.mac_page.specs.Route.{asked_in, file_in}

-- what is told, if the method is the one that is taken
abbrev pub where_taken : Bool → SiteTold → SiteTold → SiteTold
where_taken taken told refused = if taken then told else refused

abbrev pub is_get : Request (List ℕ) → Bool
is_get request = bytes_eq (head_of request).method (codes "GET")

abbrev pub is_post : Request (List ℕ) → Bool
is_post request = bytes_eq (head_of request).method (codes "POST")

-- the names of the keys, where there is a key file
abbrev pub told_names : Site → SiteTold
told_names site = if site.has_keys then Names (names_json site.keys) else Unknown

-- what a path that names no file is told: what comes of a call with these random bytes, or there is
-- nothing; which time limits have passed the page tells itself
abbrev pub told_call : Site → List ℕ → Request (List ℕ) → Option (Call × List ℕ) → SiteTold
told_call site drawn request None = Unknown
told_call site drawn request (Some asked) =
    where_taken (is_post request)
    (Called (outcome_of site.keys 0 asked.1 asked.0 drawn (body_of request))) NoPost

-- what a request is told that asks who answers
abbrev pub told_here : Request (List ℕ) → SiteTold
told_here request = where_taken (is_get request) Here NoGet

-- what a path is told that names no file: the names, a call, or nothing
abbrev pub told_plain : Site → List ℕ → Request (List ℕ) → List ℕ → SiteTold
told_plain site drawn request path =
    if bytes_eq path (codes "/names") then where_taken (is_get request) (told_names site) NoGet
    else told_call site drawn request (asked_in path)

-- what a request for this file is told: nothing where a field says that another page asks, or that
-- another site is asked
abbrev pub told_file : Site → Request (List ℕ) → File → SiteTold
told_file site request file =
    if is_shown site (head_of request)
    then where_taken (is_get request) (Shown file) NoGet else Foreign

-- what a request for no file is told: nothing where the site's own page doesn't ask
abbrev pub told_elsewhere : Site → List ℕ → Request (List ℕ) → SiteTold
told_elsewhere site drawn request =
    if is_at_home site (head_of request)
    then (if bytes_eq (uri_path (head_of request).uri) (codes "/here") then told_here request
    else told_plain site drawn request (uri_path (head_of request).uri)) else Foreign

-- what a request is told with these random bytes
abbrev pub told_at : Site → List ℕ → Request (List ℕ) → Option File → SiteTold
told_at site drawn request (Some file) = told_file site request file
told_at site drawn request None = told_elsewhere site drawn request

abbrev pub told_of : Site → List ℕ → Request (List ℕ) → SiteTold
told_of site drawn request =
    told_at site drawn request (file_in (uri_path (head_of request).uri))

-- ---- the response

abbrev pub status_of_outcome : CallOutcome → ℕ
status_of_outcome outcome.NoKey = 404
status_of_outcome (outcome.Minted json identifier) = 200
status_of_outcome (outcome.Reply json) = 200
status_of_outcome (outcome.Refused json why) = 400

abbrev pub status_of : SiteTold → ℕ
status_of Foreign = 403
status_of Unknown = 404
status_of NoGet = 405
status_of NoPost = 405
status_of (Shown file) = 200
status_of Here = 200
status_of (Names json) = 200
status_of (Called o) = status_of_outcome o

-- the type of a file
abbrev pub type_of : File → List ℕ
type_of Document = codes "text/html; charset=utf-8"
type_of Style = codes "text/css; charset=utf-8"
type_of Script = codes "text/javascript; charset=utf-8"

-- the field that tells the method that is taken (RFC 9110, section 10.2.1)
abbrev pub takes : List ℕ → List Header
takes method = (codes "allow", method) ∷ []

abbrev pub fields_of_outcome : CallOutcome → List Header
fields_of_outcome outcome.NoKey = []
fields_of_outcome (outcome.Minted json identifier) = is_json
fields_of_outcome (outcome.Reply json) = is_json
fields_of_outcome (outcome.Refused json why) = is_json

abbrev pub fields_for : SiteTold → List Header
fields_for Foreign = []
fields_for Unknown = []
fields_for NoGet = takes (codes "GET")
fields_for NoPost = takes (codes "POST")
fields_for (Shown file) = (codes "content-type", type_of file) ∷ []
fields_for Here = (codes "content-type", codes "text/plain; charset=utf-8") ∷ []
fields_for (Names json) = is_json
fields_for (Called o) = fields_of_outcome o

-- what a browser may do with a response: take scripts, styles and answers from the site alone, show
-- it in no frame, share no window with another page, guess no type, tell nobody where it was, keep
-- nothing
abbrev pub guards : List Header
guards = (
  codes "content-security-policy",
  codes "default-src 'none'; script-src 'self'; style-src 'self'; connect-src 'self'; img-src 'self' data:; base-uri 'none'; form-action 'none'; frame-ancestors 'none'",
)
    ∷ (codes "x-content-type-options", codes "nosniff")
    ∷ (codes "referrer-policy", codes "no-referrer")
    ∷ (codes "cache-control", codes "no-store")
    ∷ (codes "cross-origin-resource-policy", codes "same-origin")
    ∷ (codes "cross-origin-opener-policy", codes "same-origin") ∷ []

-- the text of a file
abbrev pub text_of : Site → File → List ℕ
text_of site Document = site.texts.document.now
text_of site Style = site.texts.style.now
text_of site Script = site.texts.script.now

abbrev pub body_of_outcome : CallOutcome → List ℕ
body_of_outcome outcome.NoKey = []
body_of_outcome (outcome.Minted json identifier) = json
body_of_outcome (outcome.Reply json) = json
body_of_outcome (outcome.Refused json why) = json

abbrev pub body_for : Site → SiteTold → List ℕ
body_for site Foreign = []
body_for site Unknown = []
body_for site NoGet = []
body_for site NoPost = []
body_for site (Shown file) = text_of site file
body_for site Here = site.secrets.of_site
body_for site (Names json) = json
body_for site (Called o) = body_of_outcome o

-- the response tells it
abbrev pub Tells : Site → SiteTold → Response → Type 0
Tells site told = IsResponse (status_of told) (fields_for told ++ guards) (body_for site told)

-- the response to a request with these random bytes, out of memory aside
abbrev pub RespondsWith : List ℕ → Site → Request (List ℕ) → Response → Type 0
RespondsWith drawn site request response =
    Tells site (told_of site drawn request) response ⊎ IsOverloaded response

-- the same with some 16 random bytes
abbrev pub Responds : Site → Request (List ℕ) → Response → Type 0
Responds site request response = ((drawn : List ℕ) × (length drawn ≡ 16)
    × Tells site (told_of site drawn request) response) ⊎ IsOverloaded response
