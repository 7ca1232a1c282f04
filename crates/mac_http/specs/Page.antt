-- The pages that tell of the daemon itself (this project's own).
use Rattle.std.specs.Prelude.{◌≡◌, ℕ, ◌⊎◌, Bool, false, true, List, [], ◌∷◌, codes, bytes_eq, Option, Some, None, if◌then◌else◌}
use Rattle.http1.specs.Fields.{Header}
use Rattle.http_server.specs.declared.response.Response.{Response}
use Rattle.http_server.specs.Response.{IsResponse}
use Rattle.mac_http.specs.declared.page.Page.{Page}
use Rattle.mac_http.specs.declared.page.Page.TheVariants.{Connections, Health, Numbers, Status, Uses}
use Rattle.mac_http.specs.declared.page.PageTold.{PageTold}
use Rattle.mac_http.specs.declared.page.PageTold.TheVariants.{Unwell, Well}
use Rattle.mac_keys.specs.KeyTable.{Table}
use Rattle.mac_http.specs.declared.rules.Pages.{Pages}
use Rattle.mac_http.specs.declared.rules.Pages.TheVariants as pages
use Rattle.mac_http.specs.declared.rules.Way.{Way}
use Rattle.mac_http.specs.declared.rules.Way.TheVariants as way
use Rattle.mac_http.specs.Saying.{IsOverloaded}

-- the page that a path names
abbrev pub page_in : List ℕ → Option Page
page_in path = if bytes_eq path (codes "/healthz") then Some Health
    else (if bytes_eq path (codes "/metrics") then Some Numbers
    else (if bytes_eq path (codes "/status") then Some Status
    else (if bytes_eq path (codes "/connections") then Some Connections
    else (if bytes_eq path (codes "/metrics/keys") then Some Uses else None))))

-- the field of a text
abbrev pub is_text : List Header
is_text = (codes "content-type", codes "text/plain; charset=utf-8") ∷ []

-- whether a face that has these pages has this one: its status, its connections and the uses of its
-- keys are not public
abbrev pub has_page : Pages → Page → Bool
has_page pages.Nothing page = false
has_page pages.Public Health = true
has_page pages.Public Numbers = true
has_page pages.Public Status = false
has_page pages.Public Connections = false
has_page pages.Public Uses = false
has_page pages.All page = true

-- the table of whose keys a page may tell: at a port, where every user of the machine may ask, none
abbrev pub told_keys : Way → Table → Option Table
told_keys way.Socket table = Some table
told_keys way.Port table = None

-- the response is the text of a page, of a daemon that is well or, of its health alone, of one that
-- is not
abbrev pub IsText : Page → Response → Type 0
IsText page response = (text : List ℕ) × (IsResponse 200 is_text text response
    ⊎ ((page ≡ Health) × IsResponse 503 is_text text response))

-- the response tells the page that is there, or that there is no memory for it; of one that isn't
-- there it is a bare 404
abbrev pub TellsIf : Bool → Page → Response → Type 0
TellsIf false page response = IsResponse 404 [] [] response
TellsIf true page response = IsText page response ⊎ IsOverloaded response

-- the same, of a face that has these pages
abbrev pub TellsPage : Pages → Page → Response → Type 0
TellsPage pages page response = TellsIf (has_page pages page) page response

-- the status of a page that tells that the daemon is well, or isn't
abbrev pub told_status : PageTold → ℕ
told_status Well = 200
told_status Unwell = 503

-- what a daemon may say on a page that may tell of these keys: a text, and whether it is well
abbrev pub Saying : Type 1
Saying = Page → Option Table → List ℕ → PageTold → Type 0

-- the response is what the daemon says of a page, under the status of a daemon that is well or isn't
abbrev pub Shows : Saying → Page → Option Table → Response → Type 0
Shows says page keys response = (text : List ℕ) × (told : PageTold) × says page keys text told
    × IsResponse (told_status told) is_text text response

-- the same of a page that is there
abbrev pub ShowsIf : Bool → Saying → Page → Option Table → Response → Type 0
ShowsIf false says page keys response = IsResponse 404 [] [] response
ShowsIf true says page keys response = Shows says page keys response ⊎ IsOverloaded response
