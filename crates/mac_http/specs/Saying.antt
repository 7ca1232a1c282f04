-- The response that tells what was found (this project's own).
use Rattle.std.specs.Prelude.{ℕ, ◌≡◌, ◌↔◌, ◌⊎◌, List, [], ◌∷◌, ◌++◌, codes}
use Rattle.std.specs.Fmt.{decimal}
use Rattle.http1.specs.Fields.{Header}
use Rattle.http_server.specs.declared.response.Response.{Response}
use Rattle.http_server.specs.Response.{IsResponse}
use Rattle.mac_http.specs.declared.finding.Finding.{Finding}
use Rattle.mac_http.specs.declared.finding.Finding.TheVariants as found
use Rattle.mac_http.specs.declared.reason.Judged.{Judged}
use Rattle.mac_http.specs.declared.rules.Granted.{Granted}
use Rattle.mac_http.specs.declared.rules.Granted.TheVariants.{Ok, NoContent}
use Rattle.mac_http.specs.Authorization.{challenge}
use Rattle.mac_http.specs.Escaped.{escaped}
use Rattle.mac_http.specs.Reason.{judged_by, nothing_judged}

-- the status that grants
abbrev pub granted_status : Granted → ℕ
granted_status Ok = 200
granted_status NoContent = 204

-- the status of what was found
abbrev pub status_of : Granted → Finding → ℕ
status_of granted found.Unknown = 404
status_of granted found.NoToken = 401
status_of granted found.Fragment = 400
status_of granted found.UnsafePath = 403
status_of granted found.ManyFacts = 400
status_of granted found.NoMoment = 500
status_of granted (found.Invalid scheme why) = 401
status_of granted (found.Unsatisfied index) = 403
status_of granted (found.Granted identifier location) = granted_status granted

-- the field that asks for a token
abbrev pub asks : List ℕ → List Header
asks challenge = (codes "www-authenticate", challenge) ∷ []

-- the fields that tell why a good token isn't granted
abbrev pub tells_why : List ℕ → List Header
tells_why reason =
    (codes "macaroon-reason", reason) ∷ (codes "content-type", codes "application/json") ∷ []

-- the fields that tell whose token it is
abbrev pub tells_whose : List ℕ → List ℕ → List Header
tells_whose identifier location =
    (codes "macaroon-identifier", escaped identifier)
    ∷ (codes "macaroon-location", escaped location) ∷ []

-- the number of the refusal, and the index of the caveat
abbrev pub unsatisfied_reason : ℕ → List ℕ
unsatisfied_reason index = codes "24 " ++ decimal index

-- the fields of what was found
abbrev pub fields_for : Finding → List Header
fields_for found.Unknown = []
fields_for found.NoToken = asks (codes "Macaroon")
fields_for found.Fragment = []
fields_for found.UnsafePath = tells_why (codes "path")
fields_for found.ManyFacts = []
fields_for found.NoMoment = []
fields_for (found.Invalid scheme why) = asks (challenge scheme)
fields_for (found.Unsatisfied index) = tells_why (unsatisfied_reason index)
fields_for (found.Granted identifier location) = tells_whose identifier location

-- the same as JSON
abbrev pub unsatisfied_body : ℕ → List ℕ
unsatisfied_body index =
    codes "{\"code\":24,\"caveat\":" ++ (decimal index ++ (codes ",\"reason\":\"caveat "
    ++ (decimal index ++ codes " is not satisfied\"}")))

-- the body of what was found
abbrev pub body_for : Finding → List ℕ
body_for found.Unknown = []
body_for found.NoToken = []
body_for found.Fragment = []
body_for found.UnsafePath = codes "{\"reason\":\"the path is not plain\"}"
body_for found.ManyFacts = []
body_for found.NoMoment = []
body_for (found.Invalid scheme why) = []
body_for (found.Unsatisfied index) = unsatisfied_body index
body_for (found.Granted identifier location) = []

-- the response tells what was found
abbrev pub Tells : Granted → Finding → Response → Type 0
Tells granted f = IsResponse (status_of granted f) (fields_for f) (body_for f)

-- the response tells that there was no memory
abbrev pub IsOverloaded : Response → Type 0
IsOverloaded = IsResponse 503 [] []

-- the response that what was found comes to, want of memory aside
abbrev pub Responds : Granted → Finding → Response → Type 0
Responds granted f response = Tells granted f response ⊎ IsOverloaded response

-- two findings are told alike: no response tells which of them it is
abbrev pub AreToldAlike : Finding → Finding → Type 0
AreToldAlike f g = (granted : Granted) (response : Response)
    → Tells granted f response ↔ Tells granted g response

-- the response tells what was found, and whoever notes it is told what came of that; or the response
-- tells that there was no memory, and nothing is noted
abbrev pub NotesJudged : Granted → Finding → Response → Judged → Type 0
NotesJudged granted f response j = (Tells granted f response × (j ≡ judged_by f))
    ⊎ (IsOverloaded response × (j ≡ nothing_judged))
